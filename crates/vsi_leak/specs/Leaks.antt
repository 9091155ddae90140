-- Leaks: two runs of an image that an observer at a class tells apart, though their stores agreed there.
use Rattle.std.specs.Prelude.{◌≡◌, ◌≢◌, ℕ, ◌+◌, ◌-◌, ◌*◌, ◌<◌, ◌≤◌, pos, List, length, replicate, slice_set, Some, false, is_some, if◌then◌else◌, IfSome, IsTrue}
use Rattle.std.specs.List.{Contains}
use Rattle.vsi_image.specs.declared.instr.Image.{Image}
use Rattle.vsi_image.specs.Meaning.{State}
use Rattle.vsi_lattice.specs.Order.{Lattice, IsClass}
use Rattle.vsi_machine.specs.Runs.{run_of}
use Rattle.vsi_scope.specs.Meaning.{Store}
use Rattle.vsi_lattice.specs.Known.{Known}
use Rattle.vsi_compiler.specs.Observation.{AgreeAt, IsStoreOf, Ends}
use Rattle.vsi_store.specs.declared.comparing.RunEnding.{RunEnding}
use Rattle.vsi_store.specs.declared.comparing.RunEnding.TheVariants.{Halted, OutOfBudget}
use Rattle.vsi_leak.specs.declared.check.Finding.{Finding}
use Rattle.vsi_leak.specs.declared.check.Finding.TheVariants as finding
use Rattle.vsi_leak.specs.declared.check.Leak.{Leak}
use Rattle.vsi_leak.specs.declared.check.Sign.{Sign}
use Rattle.vsi_leak.specs.declared.check.Sign.TheVariants.{Words, Endings, Steps}
use Rattle.vsi_leak.specs.declared.whole.Wanted.{Wanted}

-- The run from a store with this budget has not halted.
pub record GoesOn (image : Image) (m : Store) (budget : ℕ) : Type 0 where
  pub state : State
  pub reached : run_of image m budget ≡ Some state
  pub going : state.halted ≡ false

-- The run from a store takes this many instructions: it has halted within them, with these words in the globals, and
-- had not halted within one fewer.
pub record Takes (image : Image) (m : Store) (n : ℕ) (m' : Store) : Type 0 where
  pub ends : Ends image m n m'
  pub before : GoesOn image m (n - 1)

-- The run from a store has halted within this many instructions.
abbrev pub HasHalted : Image → Store → ℕ → Type 0
HasHalted image m n = (m' : Store) × Ends image m n m'

-- The run from a store takes this many instructions.
abbrev pub TakesSome : Image → Store → ℕ → Type 0
TakesSome image m n = (m' : Store) × Takes image m n m'

-- The reported ending of a run from a store, within a budget, is true.
abbrev pub EndsSo : Image → Store → ℕ → RunEnding → Type 0
EndsSo image m budget (Halted n words) = (n ≤ budget) × Takes image m n words.items
EndsSo image m budget OutOfBudget = GoesOn image m budget

-- An observer at a class can tell the ends of two runs apart by this sign.
abbrev pub TellsApart : Known → Lattice → Image → ℕ → Sign → RunEnding → RunEnding → Type 0
TellsApart known L image a Words (Halted n words) (Halted n' words') =
    ¬ (AgreeAt known L image a words.items words'.items)
TellsApart known L image a Words (Halted n words) OutOfBudget = ⊥
TellsApart known L image a Words OutOfBudget e = ⊥
TellsApart known L image a Endings (Halted n words) (Halted n' words') = ⊥
TellsApart known L image a Endings (Halted n words) OutOfBudget = Unit {0}
TellsApart known L image a Endings OutOfBudget e = ⊥
TellsApart known L image a Steps (Halted n words) (Halted n' words') = n ≢ n'
TellsApart known L image a Steps (Halted n words) OutOfBudget = ⊥
TellsApart known L image a Steps OutOfBudget e = ⊥

-- A leak of an image at a class: two stores that agree at and below it, with runs within a budget that an observer at
-- the class can tell apart.
pub record IsLeak (known : Known) (L : Lattice) (image : Image) (budget : ℕ) (leak : Leak) : Type 0 where
  pub class : IsClass L leak.class
  pub first_store : IsStoreOf image leak.first.store.items
  pub second_store : IsStoreOf image leak.second.store.items
  pub agree : AgreeAt known L image leak.class leak.first.store.items leak.second.store.items
  pub first_end : EndsSo image leak.first.store.items budget leak.first.ending
  pub second_end : EndsSo image leak.second.store.items budget leak.second.ending
  pub apart : TellsApart known L image leak.class leak.sign leak.first.ending leak.second.ending

-- A leak by this sign at this class, in runs from these stores.
pub record IsOf (s : Sign) (a : ℕ) (m m' : Store) (leak : Leak) : Type 0 where
  pub sign : leak.sign ≡ s
  pub class : leak.class ≡ a
  pub first : leak.first.store.items ≡ m
  pub second : leak.second.store.items ≡ m'

-- Two stores show no leak by this sign at this class.
abbrev pub ShowNone : Known → Lattice → Image → ℕ → Sign → ℕ → Store → Store → Type 0
ShowNone known L image budget s a m m' = (leak : Leak) → IsOf s a m m' leak → ¬ (IsLeak known L image budget leak)

-- Two stores show no leak by this sign at this class, in either order.
abbrev pub ShowNoneEither : Known → Lattice → Image → ℕ → Sign → ℕ → Store → Store → Type 0
ShowNoneEither known L image budget s a m m' =
    ShowNone known L image budget s a m m' × ShowNone known L image budget s a m' m

-- The store of zeros.
abbrev pub zeros : Image → Store
zeros image = replicate (length image.globals.items) (pos 0)

-- Next to the store of zeros, no store with a 1 in a single one of the first n globals shows a leak.
abbrev pub NoOneShows : Known → Lattice → Image → ℕ → Sign → ℕ → ℕ → Type 0
NoOneShows known L image budget s a n =
    (i : ℕ) → i < n → ShowNoneEither known L image budget s a (zeros image) (slice_set (zeros image) i (pos 1))

-- A leak by this sign at this class.
pub record IsLeakBy (known : Known) (L : Lattice) (image : Image) (budget : ℕ) (s : Sign) (a : ℕ)
    (leak : Leak) : Type 0 where
  pub shown : IsLeak known L image budget leak
  pub sign : leak.sign ≡ s
  pub class : leak.class ≡ a

-- The finding is by this sign at this class.
abbrev pub IsAsked : Sign → ℕ → Finding → Type 0
IsAsked s a (finding.Leak leak) = (leak.sign ≡ s) × (leak.class ≡ a)
IsAsked s a (finding.Nothing pairs) = Unit {0}

-- The finding reports at most this many pairs of runs.
abbrev pub TellsAtMost : ℕ → Finding → Type 0
TellsAtMost tries (finding.Leak leak) = Unit {0}
TellsAtMost tries (finding.Nothing pairs) = pairs ≤ tries

-- The number of signs that a search uses.
abbrev pub sign_count : Wanted → ℕ
sign_count wanted = 1 + (if wanted.endings then 1 else 0) + (if wanted.steps then 1 else 0)

-- The number of classes that a search looks at: the requested one alone, or each of the lattice.
abbrev pub class_count : Lattice → Wanted → ℕ
class_count L wanted = if is_some wanted.class then 1 else L.count

-- The most pairs of runs that a search tries: its tries for each class and each sign.
abbrev pub most_pairs : Lattice → Wanted → ℕ
most_pairs L wanted = wanted.effort.tries * class_count L wanted * sign_count wanted

-- If no leak is found and there were as many tries as globals, no 1 in a single global shows a leak.
abbrev pub LeavesNoOne : Known → Lattice → Image → ℕ → Sign → ℕ → ℕ → Finding → Type 0
LeavesNoOne known L image budget s a tries (finding.Leak leak) = Unit {0}
LeavesNoOne known L image budget s a tries (finding.Nothing pairs) =
    length image.globals.items ≤ tries → NoOneShows known L image budget s a (length image.globals.items)

-- A search uses this sign: always words, and the others if they are requested.
abbrev pub IsWantedSign : Wanted → Sign → Type 0
IsWantedSign wanted Words = Unit {0}
IsWantedSign wanted Endings = IsTrue wanted.endings
IsWantedSign wanted Steps = IsTrue wanted.steps

-- The finding is by this sign.
abbrev pub IsBy : Sign → Finding → Type 0
IsBy s (finding.Leak leak) = leak.sign ≡ s
IsBy s (finding.Nothing pairs) = Unit {0}

-- The finding is at one of these classes.
abbrev pub IsAtOne : List ℕ → Finding → Type 0
IsAtOne classes (finding.Leak leak) = Contains classes leak.class
IsAtOne classes (finding.Nothing pairs) = Unit {0}

-- The finding is by a sign that the search uses.
abbrev pub IsByWanted : Wanted → Finding → Type 0
IsByWanted wanted (finding.Leak leak) = IsWantedSign wanted leak.sign
IsByWanted wanted (finding.Nothing pairs) = Unit {0}

-- The finding is at the requested class, if there is one, and by a sign that the search uses.
abbrev pub IsWanted : Wanted → Finding → Type 0
IsWanted wanted (finding.Leak leak) = IfSome wanted.class (λ a. leak.class ≡ a) × IsWantedSign wanted leak.sign
IsWanted wanted (finding.Nothing pairs) = Unit {0}

-- A search ends with a leak, or without one.
abbrev pub IsFinding : Known → Lattice → Image → ℕ → Finding → Type 0
IsFinding known L image budget (finding.Leak leak) = IsLeak known L image budget leak
IsFinding known L image budget (finding.Nothing pairs) = Unit {0}

-- The finding is no leak by words.
abbrev pub TellsNoWords : Finding → Type 0
TellsNoWords (finding.Leak leak) = leak.sign ≢ Words
TellsNoWords (finding.Nothing pairs) = Unit {0}
