-- The parts of the lines of points: globals and runs of the interface, and the globals that a text declares.
use Rattle.std.specs.Prelude.{◌≡◌, ℕ, ◌+◌, ◌-◌, ◌^◌, min, ℤ, pos, ◌⊎◌, List, [], Option, Some, None, slice_get}
use Rattle.std.specs.Global.{Vec}
use Rattle.vsi_syntax.specs.Tree.{Whole, Declared}
use Rattle.vsi_image.specs.Fields.{Global, global}
use Rattle.vsi_compiler.specs.Source.{Reads}
use Rattle.vsi_conform.specs.declared.interface.Interface.{Interface}
use Rattle.vsi_conform.specs.declared.interface.Trial.{Trial}
use Rattle.vsi_conform.specs.Points.{Entry, entry}

-- ---- the interface.

-- The name and the class of a required global, both empty if there is none.
abbrev pub global_of : Option (Vec ℕ × Vec ℕ) → Global
global_of None = ([], [])
global_of (Some g) = global g

-- The n-th required global.
abbrev pub asked : Interface → ℕ → Global
asked i n = global_of (slice_get i.globals.items n)

-- The expected name and word, empty and 0 if there is none.
abbrev pub entry_of : Option (Vec ℕ × ℤ) → Entry
entry_of None = ([], pos 0)
entry_of (Some e) = entry e

-- The n-th expectation of a run.
abbrev pub expected_of : Option Trial → ℕ → Entry
expected_of None n = ([], pos 0)
expected_of (Some t) n = entry_of (slice_get t.expect.items n)

-- The n-th expectation of a run, by the number of the run.
abbrev pub expected : Interface → ℕ → ℕ → Entry
expected i run n = expected_of (slice_get i.trials.items run) n

-- The number of a run in the output, from 1; the largest number is used for all runs beyond it.
abbrev pub run_number : ℕ → ℕ
run_number run = min (run + 1) (2 ^ 64 - 1)

-- ---- the text.

-- The globals are those of the tree that reads the text.
pub record DeclaresEach (text : List ℕ) (ds : List Declared) : Type 0 where
  pub tree : Whole
  pub reads : Reads text tree
  pub globals : ds ≡ tree.globals

-- No tree reads the text, and there are no globals.
pub record DeclaresNone (text : List ℕ) (ds : List Declared) : Type 0 where
  pub treeless : (tree : Whole) → ¬ (Reads text tree)
  pub nothing : ds ≡ []

-- The globals that the text declares.
abbrev pub Declares : List ℕ → List Declared → Type 0
Declares text ds = DeclaresEach text ds ⊎ DeclaresNone text ds
