-- The laws of bounds.
use Rattle.std.specs.Prelude.{◌≡◌, ℕ, ◌≤◌, ℤ, List, length}
use Rattle.vsi_image.specs.declared.instr.Image.{Image}
use Rattle.vsi_machine.specs.Counting.{Halts, HaltsIn}
use Rattle.vsi_machine.specs.Runs.{run_of}
use Rattle.vsi_machine.specs.Bound.{AlwaysHalts}

-- If the budget is no smaller than the bound, every run halts.
abbrev pub EnoughBudget : Type 0
EnoughBudget =
    (image : Image) (least most budget : ℕ) (words : List ℤ) → AlwaysHalts image least most → most ≤ budget
    → length words ≡ length image.globals.items → Halts (run_of image words budget)

-- If both numbers are equal, every run takes exactly that many instructions.
abbrev pub ExactCount : Type 0
ExactCount =
    (image : Image) (n : ℕ) (words : List ℤ) → AlwaysHalts image n n
    → length words ≡ length image.globals.items → HaltsIn image words n
