-- The meaning of a bound of an image's runs.
use Rattle.std.specs.Prelude.{◌≡◌, ℕ, ◌+◌, ◌≤◌, ℤ, List, length, slice_get, Some}
use Rattle.vsi_image.specs.declared.instr.Instr.{Instr}
use Rattle.vsi_image.specs.declared.instr.Instr.TheVariants.{Jz, Jmp}
use Rattle.vsi_image.specs.declared.instr.Image.{Image}
use Rattle.vsi_machine.specs.Counting.{HaltsIn}
use Rattle.vsi_machine.specs.Search.{StopsAt}
use Rattle.vsi_machine.specs.declared.bound.Bound.{Bound}
use Rattle.vsi_machine.specs.declared.bound.Bound.TheVariants.{Halts, Endless, Unstructured, TooLarge}

-- From these words the image halts after a number of instructions within these two numbers.
pub record HaltsBetween (image : Image) (words : List ℤ) (least most : ℕ) : Type 0 where
  pub count : ℕ
  pub exact : HaltsIn image words count
  pub enough : least ≤ count
  pub few : count ≤ most

-- It does so from every store with one word for each global.
abbrev pub AlwaysHalts : Image → ℕ → ℕ → Type 0
AlwaysHalts image least most =
    (words : List ℤ) → length words ≡ length image.globals.items → HaltsBetween image words least most

-- The instruction at this position tests the guard of a loop: a jump before its target leads back to it or before it.
pub record IsLoop (code : List Instr) (test : ℕ) : Type 0 where
  pub target : ℕ
  pub jump : ℕ
  pub start : ℕ
  pub tests : slice_get code test ≡ Some (Jz target)
  pub jumps : slice_get code jump ≡ Some (Jmp start)
  pub next : jump + 1 ≡ target
  pub back : start ≤ test

-- An answer with two numbers means that the image always halts within them; one with a loop names a loop that the
-- search doesn't get past, for this reason.
abbrev pub Answers : Image → Bound → Type 0
Answers image (Halts least most) = AlwaysHalts image least most
Answers image (Endless test reason) = IsLoop image.code.items test × StopsAt image test reason
Answers image (Unstructured place) = Unit {0}
Answers image TooLarge = Unit {0}
