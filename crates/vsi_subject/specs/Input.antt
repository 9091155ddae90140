-- The output of the run without arguments, and its message if it has no output.
use Rattle.std.specs.Prelude.{◌≡◌, ◌++◌, ℕ, true, List, Option, Ok, Err, codes}
use Rattle.std.specs.Global.{Vec}
use Rattle.std.specs.Io.KnownBytes.{Appends}
use Rattle.vsi_lattice.specs.declared.lattice.Lattice.{Lattice}
use Rattle.vsi_drive.specs.Engine.{IsReadFrom}
use Rattle.vsi_answers.specs.Judged.{Declares}
use Rattle.vsi_answers.specs.Requests.{RunsSourceTo}
use Rattle.vsi_answers.specs.declared.unanswered.Cause.{Cause}
use Rattle.vsi_answers.specs.declared.unanswered.Unanswered.{Unanswered}
use Rattle.vsi_answers.specs.declared.unanswered.Unanswered.TheVariants.{Refused, OutOfBudget}
use Rattle.vsi_drive.specs.declared.engine.Counted.{Counted}
use Rattle.vsi_subject.specs.declared.failure.Failure.{Failure}
use Rattle.vsi_subject.specs.Screen.{is_tame}
use Rattle.vsi_subject.specs.Failures.{Gets, note_after, status_of, text_of_failure}

-- The lattice file of one class below another, under which the input is compiled.
abbrev pub two_classes : List ℕ
two_classes = codes "classes = [\"L\", \"H\"]\nbelow = [[\"L\", \"H\"]]\n"

-- The text of the store with which the source's image halts from zeros within a million instructions has been written.
pub record WritesRunOf (l : Lattice) (source : List ℕ) (old new : Option (List ℕ)) : Type 0 where
  pub text : Vec ℕ
  pub ran : RunsSourceTo l source 1000000 (Ok text)
  pub written : Appends old new text.items

-- A source is read from a reader, and the text of its run under the two classes has been written.
pub record WritesRun (remaining old new : Option (List ℕ)) : Type 0 where
  pub source : List ℕ
  pub given : IsReadFrom remaining source
  pub lattice : Lattice
  pub declared : Declares two_classes lattice
  pub writes : WritesRunOf lattice source old new

-- The text of the halting run, under the two classes, of a source read from a reader.
pub record AnswersInput (remaining : Option (List ℕ)) (bytes : List ℕ) : Type 0 where
  pub source : List ℕ
  pub given : IsReadFrom remaining source
  pub lattice : Lattice
  pub declared : Declares two_classes lattice
  pub text : Vec ℕ
  pub ran : RunsSourceTo lattice source 1000000 (Ok text)
  pub is : bytes ≡ text.items

-- A source is read from a reader, and its run under the two classes has no answer, for this reason.
pub record FailsRun (remaining : Option (List ℕ)) (reason : Unanswered) : Type 0 where
  pub source : List ℕ
  pub given : IsReadFrom remaining source
  pub lattice : Lattice
  pub declared : Declares two_classes lattice
  pub failed : RunsSourceTo lattice source 1000000 (Err reason)

-- A source read from a reader is refused, and the text of the refusal has this property.
abbrev pub RefusesRun : Option (List ℕ) → (List ℕ → Type 0) → Type 0
RefusesRun remaining told =
    (text : Vec ℕ) × (cause : Cause) × FailsRun remaining (Refused text cause) × told text.items

-- The image of a source read from a reader hasn't halted within a million instructions, and the text that says so has
-- this property.
abbrev pub SpendsRun : Option (List ℕ) → (List ℕ → Type 0) → Type 0
SpendsRun remaining told = FailsRun remaining OutOfBudget × told (codes "out of budget\n")

-- A writer has got the text of a failure with this status, followed by a note of which no byte controls a terminal
-- except for its colours, unless a call of it failed. The two have this property.
pub record TellsFailure {E : Type 0} (So : Failure → List ℕ → Type 0) (status : ℕ) (contents : E → Option (List ℕ))
    (old new : Counted E) : Type 0 where
  pub failure : Failure
  pub note : List ℕ
  pub so : So failure note
  pub failed : status ≡ status_of failure
  pub tame : is_tame note ≡ true
  pub told : Gets contents old new (text_of_failure failure ++ note_after failure note)
