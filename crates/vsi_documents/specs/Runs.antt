-- A run of an image as a line of JSON, with keys in byte order.
use Rattle.std.specs.Prelude.{◌≡◌, ℕ, ℤ, Bool, true, false, List, codes}
use Rattle.serde_json.specs.Data.{Data, array, Members, put}
use Rattle.serde_json.specs.View.{items_of}
use Rattle.vsi_image.specs.declared.instr.Image.{Image}
use Rattle.vsi_image.specs.Fields.{globals}
use Rattle.vsi_machine.specs.Counting.{HaltsIn}
use Rattle.vsi_machine.specs.Runs.{HaltsWith}
use Rattle.vsi_answers.specs.Requests.{IsSpent}
use Rattle.vsi_answers.specs.Members.{object_line}
use Rattle.vsi_documents.specs.Words.{end_members, word_objects}

-- The members of the object of a run that halts after this many instructions, with the objects of the globals.
abbrev pub halted_members : ℕ → List Data → Members
halted_members n words = put (codes "globals") (array (items_of words)) (end_members true n)

-- The run from these words halts within the budget, and the line has the words of the globals at its end and the
-- number of its instructions.
pub record TellsHalted (image : Image) (words : List ℤ) (budget : ℕ) (out : List ℕ) : Type 0 where
  pub last : List ℤ
  pub halts : HaltsWith image words budget last
  pub instructions : ℕ
  pub counted : HaltsIn image words instructions
  pub line : out ≡ object_line (halted_members instructions (word_objects (globals image.globals.items) last))

-- The run from these words hasn't halted within the budget, and the line has the number of its instructions, which is
-- the budget.
pub record TellsSpent (image : Image) (words : List ℤ) (budget : ℕ) (out : List ℕ) : Type 0 where
  pub spent : IsSpent image words budget
  pub line : out ≡ object_line (end_members false budget)

-- The line of a run that halts within a budget, or that is out of budget.
abbrev pub TellsRun : Image → List ℤ → ℕ → Bool → List ℕ → Type 0
TellsRun image words budget true out = TellsHalted image words budget out
TellsRun image words budget false out = TellsSpent image words budget out
