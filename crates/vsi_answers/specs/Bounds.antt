-- The answer about the bound of an image.
use Rattle.std.specs.Prelude.{◌≡◌, ℕ, ◌≤◌, ◌++◌, Bool, true, false, List, Option, Some, None, codes, decimal}
use Rattle.vsi_image.specs.declared.instr.Image.{Image}
use Rattle.vsi_machine.specs.Counting.{Halts as HaltsRun}
use Rattle.vsi_machine.specs.Runs.{run_of}
use Rattle.vsi_compiler.specs.Observation.{IsStoreOf}
use Rattle.vsi_scope.specs.Meaning.{Store}
use Rattle.vsi_machine.specs.Bound.{AlwaysHalts, Answers}
use Rattle.vsi_machine.specs.declared.bound.Bound.{Bound}
use Rattle.vsi_machine.specs.declared.bound.Bound.TheVariants.{Halts, Endless, Unstructured, TooLarge}
use Rattle.vsi_machine.specs.declared.bound.Reason.{Reason}
use Rattle.vsi_machine.specs.declared.bound.Reason.TheVariants.{Guard, Start, Step, Wraps}
use Rattle.vsi_answers.specs.declared.bounds.BoundAnswer.{BoundAnswer}
use Rattle.vsi_answers.specs.declared.bounds.Place.{Place}

-- Why a loop has no bound.
abbrev pub reason_text : Reason → List ℕ
reason_text Guard = codes "the loop compares no variable with a known number"
reason_text Start = codes "the loop's variable begins with a number that isn't known"
reason_text Step = codes "the loop doesn't move its variable towards the limit by the same number at each turn"
reason_text Wraps = codes "the loop's variable could wrap around before the limit"

-- The place of a loop: its line and column in a source text, or the number of the instruction that tests its guard.
abbrev pub place_text : Option Place → ℕ → List ℕ
place_text (Some place) test = decimal place.line ++ codes ":" ++ decimal place.column
place_text None test = codes "instruction " ++ decimal test

-- The line of a number of instructions within which every run halts.
abbrev pub halts_line : ℕ → List ℕ
halts_line most = codes "halts within " ++ decimal most ++ codes " instructions\n"

-- The line of a loop that has no bound.
abbrev pub endless_line : Option Place → ℕ → Reason → List ℕ
endless_line place test reason =
    codes "no bound: " ++ place_text place test ++ codes ": " ++ reason_text reason ++ codes "\n"

-- The line of a code that isn't made of loops and conditionals at this instruction.
abbrev pub unstructured_line : ℕ → List ℕ
unstructured_line at =
    codes "no bound: instruction " ++ decimal at ++ codes ": the code isn't made of loops and conditionals\n"

-- The line of a number of instructions that is too large.
abbrev pub large_line : List ℕ
large_line = codes "no bound: the number of instructions is above 18446744073709551615\n"

-- The line of an answer, where a loop that it names is at a place of a source text, if one is given.
abbrev pub bound_line : Option Place → Bound → List ℕ
bound_line place (Halts least most) = halts_line most
bound_line place (Endless test reason) = endless_line place test reason
bound_line place (Unstructured at) = unstructured_line at
bound_line place TooLarge = large_line

-- The answer has a number of instructions.
abbrev pub is_bounded : Bound → Bool
is_bounded (Halts least most) = true
is_bounded (Endless test reason) = false
is_bounded (Unstructured at) = false
is_bounded TooLarge = false

-- The text is the line of an answer that is right for the image, and it says whether there is a bound. The place of a
-- loop in a source text may be any.
pub record TellsBound (image : Image) (told : BoundAnswer) : Type 0 where
  pub answer : Bound
  pub is : Answers image answer
  pub place : Option Place
  pub line : told.text.items ≡ bound_line place answer
  pub bounded : told.is_bounded ≡ is_bounded answer
  pub found : told.found ≡ answer

-- The text says a number of instructions, and with a budget of at least so many the run from every store halts.
pub record HaltsWithin (image : Image) (text : List ℕ) : Type 0 where
  pub most : ℕ
  pub says : text ≡ halts_line most
  pub halts : (m : Store) (budget : ℕ) → IsStoreOf image m → most ≤ budget → HaltsRun (run_of image m budget)

-- From every store the image halts within this number of instructions.
abbrev pub IsBound : Image → ℕ → Type 0
IsBound image most = (least : ℕ) × AlwaysHalts image least most

-- The line of an answer that is right for the image, and that has no number of instructions.
pub record LacksBound (image : Image) (line : List ℕ) : Type 0 where
  pub answer : Bound
  pub is : Answers image answer
  pub unbounded : is_bounded answer ≡ false
  pub says : line ≡ bound_line None answer
