-- The lines after a failure that isn't explained.
use Rattle.std.proofs.Common.{◌≡◌, ◌<◌, ◌⊎◌, ◌++◌, ◌∙◌, ℕ, Bool, true, false, List, [], Option, Some, None, Result, Ok, Err, inl, inr, refl, sym, ap, subst, append-nil, arith}
use Rattle.std.specs.Prelude.{IfErr, IfOk, IsOkAnd, String}
use Rattle.std.specs.Global.{Vec}
use Rattle.std.specs.declared.alloc.Global.{Global}
use Rattle.vsi_arguments.specs.declared.request.Document.{Document}
use Rattle.vsi_arguments.specs.declared.request.Document.TheVariants as document
use Rattle.vsi_arguments.specs.declared.request.Request.{Request}
use Rattle.vsi_arguments.specs.declared.request.Request.TheVariants as request
use Rattle.vsi_arguments.specs.Asked.{AsksFor}
use Rattle.vsi_subject.specs.declared.failure.Failure.{Failure}
use Rattle.vsi_subject.specs.declared.failure.Failure.TheVariants.{Refused, Interface, Audit, Unsteady, Differs, Usage, NoClass, OutOfBudget, FileFault, LostFile, Memory}
use Rattle.vsi_subject.specs.FaultyFiles.{TellsRefusal, answers_json, has_line}
use Rattle.vsi_subject.specs.Failures.{status_of}
use Rattle.vsi_subject.specs.Holding.{Holding}
use Rattle.vsi_subject.specs.Noted.{CompareBudget, Count, DriveBudget, IsFailureNote, IsNoteBefore, Nothing, NotesDrive, NotesFailure, NotesStop, Noting, Sentences, ViewBudget, Warning, document_noting, noting}
use Rattle.vsi_subject.specs.Objections.{MayObject}
use Rattle.vsi_subject.specs.Screen.{tamed}
use Rattle.vsi_subject.specs.Words.{has_explain}
use Rattle.vsi.proofs.Faulted.{has_early}

-- ---- the line about a file that isn't used.

-- No line may follow any failure.
nothing_objects : (failure : Failure) (line : List ℕ) → line ≡ [] → MayObject failure line
nothing_objects (Refused text cause) line none = none
nothing_objects (Interface text error) line none = none
nothing_objects (Audit text error) line none = none
nothing_objects (Unsteady text error) line none = none
nothing_objects Differs line none = none
nothing_objects (Usage text) line none = none
nothing_objects (NoClass name) line none = none
nothing_objects OutOfBudget line none = none
nothing_objects (FileFault path) line none = inl none
nothing_objects (LostFile path) line none = none
nothing_objects Memory line none = none

-- The lines that were added to a note are those about a failure, or none if there was no memory for them.
pub objected : {E : Type 0} (failure : Failure) (result : Result (Vec ℕ) E) (old new : List ℕ) →
    IfOk result (λ lines. MayObject failure lines.items) →
    (new ≡ old) ⊎ IsOkAnd result (λ more. new ≡ old ++ more.items) →
    (line : List ℕ) × MayObject failure line × (new ≡ old ++ line)
objected failure result old new objects (inl same) =
    ([], nothing_objects failure [] refl, same ∙ sym (append-nil old))
objected failure (Ok lines) old new objects (inr put) = (lines.items, objects, put)
objected failure (Err e) old new objects (inr put) = absurd put

-- Only a fault of a file is followed by a line.
other_silent : (failure : Failure) (line : List ℕ) → (status_of failure ≡ 4 → ⊥) → MayObject failure line → line ≡ []
other_silent (Refused text cause) line other objects = objects
other_silent (Interface text error) line other objects = objects
other_silent (Audit text error) line other objects = objects
other_silent (Unsteady text error) line other objects = objects
other_silent Differs line other objects = objects
other_silent (Usage text) line other objects = objects
other_silent (NoClass name) line other objects = objects
other_silent OutOfBudget line other objects = objects
other_silent (FileFault path) line other objects = absurd (other refl)
other_silent (LostFile path) line other objects = objects
other_silent Memory line other objects = objects

-- The line stays if the explanation has found no memory, which hides no fault of a file.
objects_on : (failure first : Failure) (line : List ℕ) → (status_of failure ≡ 4 → status_of first ≡ 4) →
    (first ≡ failure) ⊎ (first ≡ Memory) → MayObject failure line → MayObject first line
objects_on failure first line fault (inl same) objects = subst (λ f. MayObject f line) (sym same) objects
objects_on failure first line fault (inr wants) objects =
    nothing_objects first line
    (other_silent failure line
    (λ four. let five : status_of first ≡ 5 = ap status_of wants in
    let also = fault four in absurd (omega (arith, five, also)))
    objects)

-- It stays where the line of JSON of a refusal is written.
objects_told : (b : Bool) (is_json : Bool) (first told : Failure) (line : List ℕ) (old new : Option (List ℕ)) →
    has_line is_json first ≡ b → TellsRefusal b first old new told → MayObject first line → MayObject told line
objects_told false is_json first told line old new is (same, kept) objects =
    subst (λ f. MayObject f line) (sym same) objects
objects_told true is_json first told line old new is so objects =
    let one = (has_early is_json first is).one in
    nothing_objects told line (other_silent first line (λ four. absurd (omega (arith, one, four))) objects)

-- ---- the lines before it.

-- The lines before a failure stay if the explanation has found no memory.
before_on : (holds : Holding) (n : Noting) (failure first : Failure) (note : List ℕ) →
    (first ≡ failure) ⊎ (first ≡ Memory) → IsNoteBefore holds n failure note → IsNoteBefore holds n first note
before_on holds (Count e o has_count) failure first note same so = tt
before_on holds (DriveBudget d) failure first note same (inl none) = inl none
before_on holds (DriveBudget d) failure first note (inl same) (inr late) =
    inr (subst (λ f. 3 < status_of f) (sym same) late.0, late.1)
before_on holds (DriveBudget d) failure first note (inr wants) (inr late) =
    inr (subst (λ f. 3 < status_of f) (sym wants) (omega arith), late.1)
before_on holds (ViewBudget v) failure first note same so = so
before_on holds (CompareBudget c) failure first note same so = so
before_on holds Sentences failure first note same so = tt
before_on holds Warning failure first note same so = so
before_on holds Nothing failure first note same so = so

-- A request for a document has the same lines before every failure.
before_document : (asked : Document) (holds : Holding) (first told : Failure) (note : List ℕ) →
    IsNoteBefore holds (document_noting asked) first note → IsNoteBefore holds (document_noting asked) told note
before_document (document.Sarif judging) holds first told note so = so
before_document (document.Classes compilation) holds first told note so = so
before_document (document.Flows compilation) holds first told note so = so
before_document (document.Audit audit) holds first told note so = so
before_document (document.AuditSarif audit) holds first told note so = so
before_document (document.Bound bounding) holds first told note so = so
before_document (document.Run execution initial_store) holds first told note so = so
before_document (document.Compare comparison) holds first told note so = so
before_document (document.Leak sought) holds first told note so = so
before_document (document.List image) holds first told note so = so
before_document (document.Policy looking) holds first told note so = so
before_document (document.Visible visibility) holds first told note so = so
before_document (document.Layout source) holds first told note so = so

-- A request that answers with JSON has the same lines before every failure.
before_json : (asked : Request) (holds : Holding) (first told : Failure) (note : List ℕ) →
    answers_json asked ≡ true → IsNoteBefore holds (noting asked) first note →
    IsNoteBefore holds (noting asked) told note
before_json (request.Try attempt) holds first told note json so = so
before_json (request.Check asked) holds first told note json so = so
before_json (request.Survey asked) holds first told note json so = so
before_json (request.Project asked) holds first told note json so = so
before_json (request.New folder) holds first told note json so = so
before_json (request.Document asked) holds first told note json so = before_document asked holds first told note so
before_json (request.Conform asked) holds first told note json so = so
before_json (request.Classes c) holds first told note json so = so
before_json (request.Flows c has_walks) holds first told note json so = so
before_json (request.Mend asked) holds first told note json so = so
before_json (request.Build c image) holds first told note json so = so
before_json (request.List image) holds first told note json so = so
before_json (request.Audit asked) holds first told note json so = so
before_json (request.Source image) holds first told note json so = so
before_json (request.EmitC asked) holds first told note json so = so
before_json (request.Bound asked) holds first told note json so = so
before_json (request.Run e o has_trace has_count) holds first told note json so = so
before_json (request.View lattice class e o) holds first told note json so = so
before_json (request.ViewWithin asked) holds first told note json so = so
before_json (request.Drive driving) holds first told note json so = absurd (cc)
before_json (request.Compare comparison) holds first told note json so = so
before_json (request.CompareSteps comparison is_json) holds first told note json so = so
before_json (request.Steps stepping is_json) holds first told note json so = so
before_json (request.Monitor stepping rule is_json) holds first told note json so = so
before_json (request.Leak sought) holds first told note json so = so
before_json (request.Report c) holds first told note json so = so
before_json (request.Draw drawing) holds first told note json so = so
before_json (request.Policy looking) holds first told note json so = so
before_json (request.Visible asked) holds first told note json so = so
before_json (request.Format source) holds first told note json so = so
before_json (request.Layout asked) holds first told note json so = so
before_json (request.Lattice arguments) holds first told note json so = so
before_json (request.Lsp serving) holds first told note json so = so
before_json (request.Explain page) holds first told note json so = so

-- So the lines stay where the line of JSON of a refusal is written.
before_told : (b : Bool) (asked : Request) (holds : Holding) (first told : Failure) (note : List ℕ)
    (old new : Option (List ℕ)) → has_line (answers_json asked) first ≡ b → TellsRefusal b first old new told →
    IsNoteBefore holds (noting asked) first note → IsNoteBefore holds (noting asked) told note
before_told false asked holds first told note old new is (same, kept) so =
    subst (λ f. IsNoteBefore holds (noting asked) f note) (sym same) so
before_told true asked holds first told note old new is tells so =
    before_json asked holds first told note (has_early (answers_json asked) first is).json so

-- ---- all lines.

-- The lines of a failure that isn't explained, once the line of JSON, if it has one, is written.
pub failure_note : (asked : Request) (holds : Holding) (failure first told : Failure) (before after : List ℕ)
    (old new : Option (List ℕ)) → IsNoteBefore holds (noting asked) failure before →
    (status_of failure ≡ 4 → status_of first ≡ 4) → (first ≡ failure) ⊎ (first ≡ Memory) →
    (line : List ℕ) × MayObject failure line × (after ≡ before ++ line) →
    TellsRefusal (has_line (answers_json asked) first) first old new told →
    IsFailureNote holds asked told (tamed after)
failure_note asked holds failure first told before after old new so fault same found tells = record {
  before = before;
  is = before_told (has_line (answers_json asked) first) asked holds first told before old new refl tells
      (before_on holds (noting asked) failure first before same so);
  line = found.0;
  objects = objects_told (has_line (answers_json asked) first) (answers_json asked) first told found.0 old new refl tells
      (objects_on failure first found.0 fault same found.1);
  all = ap tamed found.2;
}
