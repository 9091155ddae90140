-- The bound that an interface may require of an image.
use Rattle.std.specs.Prelude.{◌≡◌, ℕ, ◌<◌, ◌≤◌, ◌⊎◌, ◌++◌, Bool, true, false, List, codes, decimal, Option, Some, None}
use Rattle.std.specs.Global.{Vec}
use Rattle.vsi_image.specs.declared.instr.Image.{Image}
use Rattle.vsi_machine.specs.Bound.{Answers}
use Rattle.vsi_machine.specs.declared.bound.Bound.{Bound}
use Rattle.vsi_answers.specs.Bounds.{IsBound, bound_line, is_bounded}
use Rattle.vsi_answers.specs.declared.bounds.Place.{Place}
use Rattle.vsi_conform.specs.declared.interface.Bounded.{Bounded}
use Rattle.vsi_conform.specs.declared.interface.Bounded.TheVariants.{No, Yes, AtMost}

-- A bound is required.
abbrev pub demands_bound : Bounded → Bool
demands_bound No = false
demands_bound Yes = true
demands_bound (AtMost maximum) = true

-- The image has a bound: a number of instructions within which it halts from every store.
abbrev pub HasBound : Image → Type 0
HasBound image = (most : ℕ) × IsBound image most

-- The image has a bound of at most this number.
abbrev pub HasBoundWithin : Image → ℕ → Type 0
HasBoundWithin image maximum = (most : ℕ) × IsBound image most × (most ≤ maximum)

-- The image has the bound that is required, if one is.
abbrev pub IsBoundedAs : Bounded → Image → Type 0
IsBoundedAs No image = Unit {0}
IsBoundedAs Yes image = HasBound image
IsBoundedAs (AtMost maximum) image = HasBoundWithin image maximum

-- The line is that of an answer about the bound of the image, and the answer has no number of instructions.
pub record LacksBound (image : Image) (line : List ℕ) : Type 0 where
  pub answer : Bound
  pub is : Answers image answer
  pub unbounded : is_bounded answer ≡ false
  pub place : Option Place
  pub says : line ≡ bound_line place answer

-- `halts within NUMBER instructions, expected at most NUMBER`
abbrev pub excess_line : ℕ → ℕ → List ℕ
excess_line most maximum =
    codes "halts within " ++ decimal most ++ codes " instructions, expected at most " ++ decimal maximum ++ codes "\n"

-- The bound found for the image is above the maximum, and the line has both numbers.
pub record ExceedsBound (image : Image) (maximum : ℕ) (line : List ℕ) : Type 0 where
  pub most : ℕ
  pub is : IsBound image most
  pub above : maximum < most
  pub says : line ≡ excess_line most maximum

-- The line says why the bound of the image isn't as required: none was found, or it is above the maximum.
abbrev pub FaultsBound : Bounded → Image → List ℕ → Type 0
FaultsBound No image line = ⊥
FaultsBound Yes image line = LacksBound image line
FaultsBound (AtMost maximum) image line = LacksBound image line ⊎ ExceedsBound image maximum line

-- What is reported of the image's bound: nothing if it is as required, else the line about it.
abbrev pub ReportsBound : Bounded → Image → Option (Vec ℕ) → Type 0
ReportsBound b image None = IsBoundedAs b image
ReportsBound b image (Some line) = FaultsBound b image line.items
