-- The line of a refused interface.
use Rattle.std.specs.Prelude.{ℕ, List, [], ◌++◌, codes, decimal, Option, Some, None}
use Rattle.vsi_conform.specs.declared.interface.InterfaceError.{InterfaceError}
use Rattle.vsi_conform.specs.declared.interface.InterfaceError.TheVariants.{NotToml, UnknownKey, BadLattice, BadProfile, BadOrder, BadBounded, BadGlobals, BadName, RepeatedGlobal, UnknownClass, BadRuns, BadRun, BadStore, NoBudget, NothingExpected, UnknownGlobal, BadCycle, UnknownInCycle, BadReference, RefusedReference, AboveBudget, Memory}

-- The name of a fault.
abbrev pub name_of : InterfaceError → List ℕ
name_of NotToml = codes "NotToml"
name_of (UnknownKey key) = codes "UnknownKey"
name_of BadLattice = codes "BadLattice"
name_of BadProfile = codes "BadProfile"
name_of BadOrder = codes "BadOrder"
name_of BadBounded = codes "BadBounded"
name_of BadGlobals = codes "BadGlobals"
name_of (BadName name) = codes "BadName"
name_of (RepeatedGlobal name) = codes "RepeatedGlobal"
name_of (UnknownClass name) = codes "UnknownClass"
name_of BadRuns = codes "BadRuns"
name_of (BadRun run) = codes "BadRun"
name_of (BadStore run) = codes "BadStore"
name_of (NoBudget run) = codes "NoBudget"
name_of (NothingExpected run) = codes "NothingExpected"
name_of (UnknownGlobal run name) = codes "UnknownGlobal"
name_of (BadCycle cycle) = codes "BadCycle"
name_of (UnknownInCycle cycle name) = codes "UnknownInCycle"
name_of BadReference = codes "BadReference"
name_of (RefusedReference lines) = codes "RefusedReference"
name_of (AboveBudget budget) = codes "AboveBudget"
name_of Memory = codes "Memory"

-- The number of the faulty run or boundary, from 1, or the budget.
abbrev pub run_of : InterfaceError → Option ℕ
run_of (BadRun run) = Some run
run_of (BadStore run) = Some run
run_of (NoBudget run) = Some run
run_of (NothingExpected run) = Some run
run_of (UnknownGlobal run name) = Some run
run_of (BadCycle cycle) = Some cycle
run_of (UnknownInCycle cycle name) = Some cycle
run_of (AboveBudget budget) = Some budget
run_of _ = None

-- The faulty name or key, or the path and the refusal of the reference.
abbrev pub word_of : InterfaceError → Option (List ℕ)
word_of (UnknownKey key) = Some key.items
word_of (BadName name) = Some name.items
word_of (RepeatedGlobal name) = Some name.items
word_of (UnknownClass name) = Some name.items
word_of (UnknownGlobal run name) = Some name.items
word_of (UnknownInCycle cycle name) = Some name.items
word_of (RefusedReference lines) = Some lines.items
word_of _ = None

-- A space and a number, if there is one.
abbrev pub run_field : Option ℕ → List ℕ
run_field None = []
run_field (Some run) = codes " " ++ decimal run

-- A space and a name, a key or a refusal, if there is one.
abbrev pub word_field : Option (List ℕ) → List ℕ
word_field None = []
word_field (Some word) = codes " " ++ word

-- `refused interface: NAME`, the run, the name, the key or the refusal, and a line feed.
abbrev pub interface_line : InterfaceError → List ℕ
interface_line e =
    codes "refused interface: " ++ name_of e ++ run_field (run_of e) ++ word_field (word_of e) ++ codes "\n"
