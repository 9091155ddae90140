-- The common properties of two runs of a steady image.
use Rattle.std.specs.Prelude.{◌≡◌, ℕ, zero, suc, ℤ, List, [], ◌∷◌, ◌++◌, length, slice_get, Option, Some, None, Bool, false, if◌then◌else◌}
use Rattle.std.specs.Option.{option_map_or}
use Rattle.vsi_lattice.specs.Order.{Lattice, IsLattice, IsClass}
use Rattle.vsi_image.specs.declared.instr.Instr.{Instr}
use Rattle.vsi_image.specs.declared.instr.Instr.TheVariants.{Store}
use Rattle.vsi_image.specs.declared.instr.Image.{Image}
use Rattle.vsi_image.specs.Fields.{globals}
use Rattle.vsi_image.specs.Valid.{IsValid}
use Rattle.vsi_image.specs.Meaning.{State, stepped, start}
use Rattle.vsi_machine.specs.Runs.{globals_of, run_of}
use Rattle.vsi_lattice.specs.Known.{Known}
use Rattle.vsi_store.specs.View.{Views, is_seen}
use Rattle.vsi_store.specs.declared.views.View.{View}
use Rattle.vsi_store.specs.declared.views.View.TheVariants.{Text, OutOfBudget}
use Rattle.vsi_compiler.specs.Observation.{AgreeAt}
use Rattle.vsi_steady.specs.Steady.{IsSteady}

-- The class sees this slot: the slot is that of a global whose class is at or below it.
abbrev pub is_slot_seen : Known → Lattice → ℕ → Image → ℕ → Bool
is_slot_seen known L a image k =
    option_map_or (λ g. is_seen known L a g.1) (slice_get (globals image.globals.items) k) false

-- The number of a global and the word written to it.
abbrev pub Write : Type 0
Write = ℕ × ℤ

-- The write of the top operand to a slot, if the class sees the slot.
abbrev pub write_to : Bool → ℕ → List ℤ → List Write
write_to seen k [] = []
write_to seen k (v ∷ rest) = if seen then (k, v) ∷ [] else []

-- The write that an instruction makes to a global that the class sees.
abbrev pub write_of : Known → Lattice → ℕ → Image → List ℤ → Instr → List Write
write_of known L a image operands (Store k) = write_to (is_slot_seen known L a image k) k operands
write_of known L a image operands _ = []

-- The write of the next instruction of a state, if there is one.
abbrev pub next_write : Known → Lattice → ℕ → Image → State → List Write
next_write known L a image s =
    if s.halted then []
    else option_map_or (write_of known L a image s.operands) (slice_get image.code.items s.pc) []

-- The writes within this many instructions to globals that the class sees, in order.
abbrev pub writes : Known → Lattice → ℕ → Image → ℕ → State → List Write
writes known L a image zero s = []
writes known L a image (suc n) s =
    next_write known L a image s ++ option_map_or (writes known L a image n) (stepped image.code.items s) []

-- The stores of an image, with a word for each global, agree at and below a class.
pub record AgreeBelow (known : Known) (L : Lattice) (image : Image) (a : ℕ) (m m' : List ℤ) : Type 0 where
  pub class : IsClass L a
  pub full : length m ≡ length image.globals.items
  pub full' : length m' ≡ length image.globals.items
  pub agree : AgreeAt known L image a m m'

-- After this many instructions, two runs are at the same place, both have halted or neither has, their words agree, and
-- they have made the same writes to globals that the class sees, in the same order.
pub record StandAlike (known : Known) (L : Lattice) (image : Image) (a : ℕ) (m m' : List ℤ) (n : ℕ) : Type 0 where
  pub state : State
  pub state' : State
  pub reached : run_of image m n ≡ Some state
  pub reached' : run_of image m' n ≡ Some state'
  pub place : state.pc ≡ state'.pc
  pub halted : state.halted ≡ state'.halted
  pub agree : AgreeAt known L image a (globals_of image state) (globals_of image state')
  pub writes : writes known L a image n (start image m) ≡ writes known L a image n (start image m')

-- For each class, every two stores that agree at and below it, and every number of instructions, the runs are alike.
abbrev pub RunsAlike : Known → Lattice → Image → Type 0
RunsAlike known L image =
    (a : ℕ) (m m' : List ℤ) (n : ℕ) → AgreeBelow known L image a m m' → StandAlike known L image a m m' n

-- The view of a class: a text, or that the budget was spent.
abbrev pub seen : View → Option (List ℕ)
seen (Text text) = Some text.items
seen OutOfBudget = None

-- For each class, every two stores that agree at and below it, and every budget, the class has the same view of both
-- runs.
abbrev pub ViewsAlike : Known → Lattice → Image → Type 0
ViewsAlike known L image =
    (a : ℕ) (m m' : List ℤ) (budget : ℕ) (view view' : View) → AgreeBelow known L image a m m' →
    Views known L a image m budget view → Views known L a image m' budget view' → seen view ≡ seen view'

-- Runs of a valid steady image are alike.
abbrev pub SteadyRunsAlike : Type 0
SteadyRunsAlike =
    (known : Known) (L : Lattice) (image : Image) → IsLattice L → IsValid image → IsSteady known L image →
    RunsAlike known L image

-- The views of a valid steady image are alike.
abbrev pub SteadyViewsAlike : Type 0
SteadyViewsAlike =
    (known : Known) (L : Lattice) (image : Image) → IsLattice L → IsValid image → IsSteady known L image →
    ViewsAlike known L image
