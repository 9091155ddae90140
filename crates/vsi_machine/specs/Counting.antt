-- The number of instructions of a run that halts.
use Rattle.std.specs.Prelude.{◌≡◌, ℕ, ◌≤◌, ℤ, List, Option, IsSomeAnd, IsTrue, false}
use Rattle.vsi_image.specs.declared.instr.Image.{Image}
use Rattle.vsi_image.specs.Meaning.{State}
use Rattle.vsi_machine.specs.Runs.{run_of}

-- A run reached a state that has halted.
abbrev pub Halts : Option State → Type 0
Halts o = IsSomeAnd o (λ s. IsTrue s.halted)

-- A run reached a state that has not halted.
abbrev pub GoesOn : Option State → Type 0
GoesOn o = IsSomeAnd o (λ s. s.halted ≡ false)

-- From these words the image halts within n instructions, and within no fewer.
pub record HaltsIn (image : Image) (words : List ℤ) (n : ℕ) : Type 0 where
  pub halts : Halts (run_of image words n)
  pub least : (budget : ℕ) → Halts (run_of image words budget) → n ≤ budget
