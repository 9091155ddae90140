-- The line of JSON that a request with `--json` writes about a refused file.
use Rattle.std.specs.Prelude.{◌≡◌, ◌⊎◌, ◌++◌, ℕ, Bool, true, false, List, Option, Some, None, if◌then◌else◌}
use Rattle.std.specs.Io.KnownBytes.{Appends}
use Rattle.vsi_answers.specs.declared.unanswered.Cause.{Cause}
use Rattle.vsi_answers.specs.declared.unanswered.Cause.TheVariants.{Source, File as InFile, Start, Steady, Raised}
use Rattle.vsi_conform.specs.Checking.{unsteady_diagnostic}
use Rattle.vsi_answers.specs.Diagnostic.{Diagnostic, line_text}
use Rattle.vsi_answers.specs.Files.{fault_diagnostic}
use Rattle.vsi_answers.specs.Source.{refusal_diagnostic}
use Rattle.vsi_documents.specs.Refused.{refused_interface_line, refused_line}
use Rattle.vsi_arguments.specs.declared.request.AnswerForm.{AnswerForm}
use Rattle.vsi_arguments.specs.declared.request.AnswerForm.TheVariants as form
use Rattle.vsi_arguments.specs.declared.request.Document.{Document}
use Rattle.vsi_arguments.specs.declared.request.Document.TheVariants as document
use Rattle.vsi_arguments.specs.declared.request.Request.{Request}
use Rattle.vsi_arguments.specs.declared.request.Request.TheVariants as request
use Rattle.vsi_subject.specs.declared.failure.Failure.{Failure}
use Rattle.vsi_subject.specs.declared.failure.Failure.TheVariants.{Refused, Interface, Memory}
use Rattle.vsi_subject.specs.Diagnosing.{start_diagnostic}
use Rattle.vsi_subject.specs.Failures.{status_of}
use Rattle.vsi_subject.specs.Partly.{WritesPart}

-- ---- which requests write it, and for which failures.

-- The document is a line of JSON.
abbrev pub document_answers_json : Document → Bool
document_answers_json (document.Sarif asked) = false
document_answers_json (document.AuditSarif asked) = false
document_answers_json asked = true

-- The answer is written as a line of JSON.
abbrev pub is_json : AnswerForm → Bool
is_json form.Json = true
is_json other = false

-- The request answers with a line of JSON.
abbrev pub answers_json : Request → Bool
answers_json (request.Check asked) = asked.is_json
answers_json (request.Survey asked) = is_json asked.form
answers_json (request.Project asked) = is_json asked.form
answers_json (request.Document asked) = document_answers_json asked
answers_json (request.Conform asked) = is_json asked.form
answers_json (request.Mend asked) = asked.is_json
answers_json (request.CompareSteps comparison is_json) = is_json
answers_json (request.Steps stepping is_json) = is_json
answers_json (request.Monitor stepping rule is_json) = is_json
answers_json asked = false

-- A file is refused, a setting, or a text that has to be compiled; a leak and a missing bound have no cause.
abbrev pub is_refusal : Failure → Bool
is_refusal (Refused text (Some cause)) = true
is_refusal (Refused text None) = false
is_refusal (Interface text error) = true
is_refusal failure = false

-- The failure has a line, if its request answers with JSON.
abbrev pub has_line : Bool → Failure → Bool
has_line is_json failure = if is_refusal failure then is_json else false

-- ---- the line.

-- The refusal with this cause; that of a source text has its position in some text.
abbrev pub IsRefusalBy : Cause → Diagnostic → Type 0
IsRefusalBy (Source e) d = (source : List ℕ) × (refusal_diagnostic source e ≡ Some d)
IsRefusalBy (InFile f) d = fault_diagnostic f ≡ Some d
IsRefusalBy (Start f) d = start_diagnostic f ≡ d
IsRefusalBy (Steady e) d = (source : List ℕ) × (unsteady_diagnostic source e ≡ Some d)
IsRefusalBy (Raised e) d = ⊥

-- The line is the JSON of the refusal with this cause and this text, which begins with the line of the refusal.
pub record IsLineBy (cause : Cause) (text line : List ℕ) : Type 0 where
  pub diagnostic : Diagnostic
  pub by : IsRefusalBy cause diagnostic
  pub more : List ℕ
  pub begins : text ≡ line_text diagnostic ++ more
  pub is : line ≡ refused_line diagnostic text

-- The line of JSON of a refusal, which has the text that goes to standard error.
abbrev pub IsRefusalLine : Failure → List ℕ → Type 0
IsRefusalLine (Refused text (Some cause)) line = IsLineBy cause text.items line
IsRefusalLine (Refused text None) line = ⊥
IsRefusalLine (Interface text error) line = line ≡ refused_interface_line error text.items
IsRefusalLine failure line = ⊥

-- ---- what becomes of the output.

-- The line of a refusal has been written, and the refusal stays the failure; or the output has failed on the way.
pub record WritesRefusal (first : Failure) (old new : Option (List ℕ)) (failure : Failure) : Type 0 where
  pub line : List ℕ
  pub is : IsRefusalLine first line
  pub written : ((failure ≡ first) × Appends old new line) ⊎ ((status_of failure ≡ 4) × WritesPart line old new)

-- A failure with a line has written it, or memory ran out before; any other failure stays, and writes nothing.
abbrev pub TellsRefusal : Bool → Failure → Option (List ℕ) → Option (List ℕ) → Failure → Type 0
TellsRefusal true first old new failure = WritesRefusal first old new failure ⊎ ((failure ≡ Memory) × (new ≡ old))
TellsRefusal false first old new failure = (failure ≡ first) × (new ≡ old)
