-- The lines on standard error after a request that has been performed.
use Rattle.std.specs.Prelude.{◌≡◌, ◌<◌, ◌^◌, ◌++◌, ℕ, ℤ, ◌⊎◌, Bool, true, false, List, [], Option, Result, IfErr, OnOk, String, codes}
use Rattle.std.specs.declared.alloc.Global.{Global}
use Rattle.vsi_lattice.specs.declared.lattice.Lattice.{Lattice}
use Rattle.vsi_image.specs.declared.instr.Image.{Image}
use Rattle.vsi_machine.specs.Counting.{HaltsIn}
use Rattle.vsi_machine.specs.CountTexts.{count_line}
use Rattle.vsi_arguments.specs.declared.request.Budget.{Budget}
use Rattle.vsi_arguments.specs.declared.request.Comparison.{Comparison}
use Rattle.vsi_arguments.specs.declared.request.Document.{Document}
use Rattle.vsi_arguments.specs.declared.request.Document.TheVariants as document
use Rattle.vsi_arguments.specs.declared.request.Driving.{Driving}
use Rattle.vsi_arguments.specs.declared.request.Execution.{Execution}
use Rattle.vsi_arguments.specs.declared.request.InitialStore.{InitialStore}
use Rattle.vsi_arguments.specs.declared.request.Request.{Request}
use Rattle.vsi_arguments.specs.declared.request.Request.TheVariants as request
use Rattle.vsi_arguments.specs.declared.request.Viewing.{Viewing}
use Rattle.vsi_arguments.specs.Asked.{AsksFor}
use Rattle.vsi_arguments.specs.Help.{AsksHelp}
use Rattle.vsi_drive.specs.declared.engine.Counted.{Counted}
use Rattle.vsi_subject.specs.Admitted.{IsEnough, IsShort}
use Rattle.vsi_subject.specs.Files.{BeginsAt, IsBudgetOf}
use Rattle.vsi_subject.specs.Holding.{Holding, IsImageAt, IsLatticeAt}
use Rattle.vsi_subject.specs.Objections.{MayObject}
use Rattle.vsi_subject.specs.Screen.{is_tame, tamed}
use Rattle.vsi_subject.specs.Steering.{IsLatticeOf}
use Rattle.vsi_subject.specs.Failures.{Gets, status_of}
use Rattle.vsi_subject.specs.Words.{has_explain}
use Rattle.vsi_subject.specs.declared.failure.Failure.{Failure}

-- The line about a text that conforms, and whose image doesn't.
abbrev pub image_warning : List ℕ
image_warning = codes "warning: `conform` refuses an image of this text, in which variables share slots\n"

-- The lines are none, or that one.
abbrev pub MayWarn : List ℕ → Type 0
MayWarn note = (note ≡ []) ⊎ (note ≡ image_warning)

-- The kind of these lines: the count of the run of an image file, if it is requested, the line about the budget of a
-- drive, a view or a comparison, sentences for a person, the warning about an image, if there is cause for it, or none.
pub data Noting : Type 0 where
  Count : Execution → InitialStore → Bool → Noting
  DriveBudget : Driving → Noting
  ViewBudget : Viewing → Noting
  CompareBudget : Comparison → Noting
  Sentences : Noting
  Warning : Noting
  Nothing : Noting

-- The kind of the lines after a request for a document.
abbrev pub document_noting : Document → Noting
document_noting (document.Compare comparison) = CompareBudget comparison
document_noting (document.Policy looking) = Sentences
document_noting (document.Visible visibility) = Sentences
document_noting asked = Nothing

-- The kind of the lines after a request.
abbrev pub noting : Request → Noting
noting (request.Run e o has_trace has_count) = Count e o has_count
noting (request.Check asked) = Sentences
noting (request.Drive driving) = DriveBudget driving
noting (request.Policy looking) = Sentences
noting (request.Visible visibility) = Sentences
noting (request.Lsp serving) = Sentences
noting (request.Conform asked) = Warning
noting (request.ViewWithin asked) = ViewBudget asked
noting (request.Compare comparison) = CompareBudget comparison
noting (request.Document asked) = document_noting asked
noting asked = Nothing

-- The line of the least budget, of 64 bits, within which the image halts from these words, and nothing if it isn't
-- requested.
abbrev pub Counts : Bool → Image → List ℤ → List ℕ → Type 0
Counts false image words note = note ≡ []
Counts true image words note = (n : ℕ) × HaltsIn image words n × (n < 2 ^ 64) × (note ≡ count_line n)

-- The same for the run of an image file.
pub record CountsRun (holds : Holding) (e : Execution) (o : InitialStore) (has_count : Bool) (note : List ℕ) : Type 0 where
  pub image : Image
  pub words : List ℤ
  pub begins : BeginsAt holds e o image words
  pub counts : Counts has_count image words note

-- The lines about a budget: none if it is enough, and with `--unbounded` else the one that says why it isn't.
abbrev pub TellsBudget : Bool → Lattice → Image → ℕ → List ℕ → Type 0
TellsBudget is_unbounded l image budget note =
    (IsEnough l image budget × (note ≡ [])) ⊎ ((is_unbounded ≡ true) × IsShort l image budget note)

-- The lines about the budget for the image of a file, under a lattice of this kind, depend on nothing else.
pub record NotesShort (holds : Holding) (is_unbounded : Bool) (Kind : Lattice → Type 0) (path : List ℕ) (given : Budget)
    (note : List ℕ) : Type 0 where
  pub lattice : Lattice
  pub declared : Kind lattice
  pub image : Image
  pub held : IsImageAt holds path image
  pub budget : ℕ
  pub within : IsBudgetOf given image budget
  pub is : TellsBudget is_unbounded lattice image budget note

-- The same for a drive.
abbrev pub NotesDrive : Holding → Driving → List ℕ → Type 0
NotesDrive holds d =
    NotesShort holds d.is_unbounded (IsLatticeOf holds d.policy) d.execution.image.now d.execution.budget

-- The same for a view.
abbrev pub NotesView : Holding → Viewing → List ℕ → Type 0
NotesView holds v =
    NotesShort holds v.is_unbounded (IsLatticeOf holds v.policy) v.execution.image.now v.execution.budget

-- The same for a comparison.
abbrev pub NotesCompare : Holding → Comparison → List ℕ → Type 0
NotesCompare holds c = NotesShort holds c.is_unbounded (IsLatticeAt holds c.lattice.now) c.image.now c.budget

-- A drive that fails has no such lines before its first cycle, and these lines, or none, from then on.
abbrev pub NotesStop : Holding → Driving → Failure → List ℕ → Type 0
NotesStop holds d failure note = (note ≡ []) ⊎ ((3 < status_of failure) × NotesDrive holds d note)

-- The lines of this kind, as they are written.
abbrev pub IsNote : Holding → Noting → List ℕ → Type 0
IsNote holds (Count e o has_count) note = CountsRun holds e o has_count note
IsNote holds (DriveBudget d) note = (lines : List ℕ) × NotesDrive holds d lines × (note ≡ tamed lines)
IsNote holds (ViewBudget v) note = (lines : List ℕ) × NotesView holds v lines × (note ≡ tamed lines)
IsNote holds (CompareBudget c) note = (lines : List ℕ) × NotesCompare holds c lines × (note ≡ tamed lines)
IsNote holds Sentences note = Unit {0}
IsNote holds Warning note = MayWarn note
IsNote holds Nothing note = note ≡ []

-- The lines of this kind before a failure; a count isn't claimed then.
abbrev pub IsNoteBefore : Holding → Noting → Failure → List ℕ → Type 0
IsNoteBefore holds (Count e o has_count) failure note = Unit {0}
IsNoteBefore holds (DriveBudget d) failure note = NotesStop holds d failure note
IsNoteBefore holds (ViewBudget v) failure note = (note ≡ []) ⊎ NotesView holds v note
IsNoteBefore holds (CompareBudget c) failure note = (note ≡ []) ⊎ NotesCompare holds c note
IsNoteBefore holds Sentences failure note = Unit {0}
IsNoteBefore holds Warning failure note = MayWarn note
IsNoteBefore holds Nothing failure note = note ≡ []

-- The same after an answer.
abbrev pub Notes : {T : Type 0} → Holding → Noting → Result T Failure → List ℕ → Type 0
Notes holds (Count e o has_count) answer note = OnOk answer (CountsRun holds e o has_count note)
Notes holds (DriveBudget d) answer note =
    OnOk answer (NotesDrive holds d note) × IfErr answer (λ failure. NotesStop holds d failure note)
Notes holds (ViewBudget v) answer note =
    OnOk answer (NotesView holds v note) × IfErr answer (λ failure. (note ≡ []) ⊎ NotesView holds v note)
Notes holds (CompareBudget c) answer note =
    OnOk answer (NotesCompare holds c note) × IfErr answer (λ failure. (note ≡ []) ⊎ NotesCompare holds c note)
Notes holds Sentences answer note = Unit {0}
Notes holds Warning answer note = MayWarn note
Notes holds Nothing answer note = note ≡ []

-- The lines of this kind once a request has been answered, whatever becomes of the answer; no count and no drive is
-- an answer.
abbrev pub NotesAnswer : Holding → Noting → List ℕ → Type 0
NotesAnswer holds (Count e o has_count) note = ⊥
NotesAnswer holds (DriveBudget d) note = ⊥
NotesAnswer holds (ViewBudget v) note = NotesView holds v note
NotesAnswer holds (CompareBudget c) note = NotesCompare holds c note
NotesAnswer holds Sentences note = Unit {0}
NotesAnswer holds Warning note = MayWarn note
NotesAnswer holds Nothing note = note ≡ []

-- The lines after the request of these arguments; there are none after help.
abbrev pub NotesOf : Holding → List (String Global) → List ℕ → Type 0
NotesOf holds words note =
    (AsksHelp words × (note ≡ []))
    ⊎ ((asked : Request) × AsksFor words asked × IsNote holds (noting asked) note)

-- The lines after the text of a failed request, as they are written: those of its kind, and then the one about a file
-- that isn't used.
pub record IsFailureNote (holds : Holding) (asked : Request) (failure : Failure) (note : List ℕ) : Type 0 where
  pub before : List ℕ
  pub is : IsNoteBefore holds (noting asked) failure before
  pub line : List ℕ
  pub objects : MayObject failure line
  pub all : note ≡ tamed (before ++ line)

-- Without `--explain`, a failure is followed by no line or by those of the request of these arguments.
abbrev pub NotesFailure : Holding → List (String Global) → Failure → List ℕ → Type 0
NotesFailure holds words failure note =
    has_explain words ≡ false →
    (note ≡ []) ⊎ ((asked : Request) × AsksFor words asked × IsFailureNote holds asked failure note)

-- A writer has got these lines, of which no byte controls a terminal except for its colours, unless a call of it
-- failed.
pub record TellsNote {E : Type 0} (holds : Holding) (words : List (String Global)) (contents : E → Option (List ℕ))
    (old new : Counted E) : Type 0 where
  pub note : List ℕ
  pub tame : is_tame note ≡ true
  pub is : NotesOf holds words note
  pub told : Gets contents old new note
