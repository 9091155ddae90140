-- The reason why a request has failed early, given the contents of its files.
use Rattle.std.specs.Prelude.{◌≡◌, ◌<◌, ℤ, ℕ, ◌⊎◌, Bool, true, false, List, Option, Some, None, Err, IsSomeAnd}
use Rattle.std.specs.Global.{Vec}
use Rattle.std.specs.Borrow.{Bor}
use Rattle.std.specs.Io.KnownBytes.{Appends}
use Rattle.vsi_lattice.specs.LatticeView.{class_named, order}
use Rattle.vsi_lattice.specs.declared.lattice.Lattice.{Lattice}
use Rattle.vsi_image.specs.declared.instr.Image.{Image}
use Rattle.vsi_image.specs.Fields.{globals}
use Rattle.vsi_compiler.specs.Headline.{IsImageOf}
use Rattle.vsi_compiler.specs.Readable.{HasProgram}
use Rattle.vsi_drive.specs.Boundary.{Boundary}
use Rattle.vsi_drive.specs.Control.{controlled}
use Rattle.vsi_drive.specs.Views.{view_of}
use Rattle.vsi_audit.specs.Refusal as audited
use Rattle.vsi_audit.specs.Telling.{IsAuditText}
use Rattle.vsi_audit.specs.declared.flow.AuditError.{AuditError}
use Rattle.vsi_steady.specs.Refusal as steady
use Rattle.vsi_steady.specs.Telling.{IsUnsteadyText}
use Rattle.vsi_leak.specs.Leaks.{IsLeak, IsWanted}
use Rattle.vsi_leak.specs.Texts.{IsLeakText}
use Rattle.vsi_leak.specs.declared.check.Finding.TheVariants as finding
use Rattle.vsi_leak.specs.declared.check.Leak.{Leak}
use Rattle.vsi_drive.specs.Running.{RunsApart}
use Rattle.vsi_answers.specs.Judged.{Declares}
use Rattle.vsi_answers.specs.Requests.{Answer, BuildsTo, ComparesTo, ListsTo, ReadsImage, ViewsTo}
use Rattle.vsi_answers.specs.declared.unanswered.Unanswered.{Unanswered}
use Rattle.vsi_answers.specs.declared.unanswered.Unanswered.TheVariants as unanswered
use Rattle.vsi_types.specs.declared.rules.Profile.TheVariants.{Base}
use Rattle.vsi_documents.specs.Named.{named_policy}
use Rattle.vsi_arguments.specs.declared.request.Attempt.{Attempt}
use Rattle.vsi_arguments.specs.declared.request.Audit.{Audit}
use Rattle.vsi_arguments.specs.declared.request.Bounding.{Bounding}
use Rattle.vsi_arguments.specs.declared.request.Comparison.{Comparison}
use Rattle.vsi_arguments.specs.declared.request.Compilation.{Compilation}
use Rattle.vsi_arguments.specs.declared.request.Conformance.{Conformance}
use Rattle.vsi_arguments.specs.declared.request.Document.{Document}
use Rattle.vsi_arguments.specs.declared.request.Document.TheVariants as document
use Rattle.vsi_arguments.specs.declared.request.Emission.{Emission}
use Rattle.vsi_arguments.specs.declared.request.Execution.{Execution}
use Rattle.vsi_arguments.specs.declared.request.Judging.{Judging}
use Rattle.vsi_arguments.specs.declared.request.Mending.{Mending}
use Rattle.vsi_arguments.specs.declared.request.InitialStore.{InitialStore}
use Rattle.vsi_arguments.specs.declared.request.Search.{Search}
use Rattle.vsi_arguments.specs.declared.request.Viewing.{Viewing}
use Rattle.vsi_arguments.specs.declared.request.Request.{Request}
use Rattle.vsi_arguments.specs.declared.request.Request.TheVariants as request
use Rattle.vsi_subject.specs.declared.failure.Failure.{Failure}
use Rattle.vsi_subject.specs.declared.failure.Failure.TheVariants as fails
use Rattle.vsi_subject.specs.Holding.{Holding, IsImageAt, IsLatticeAt, IsReadAt}
use Rattle.vsi_subject.specs.Laying.{OtherLayout}
use Rattle.vsi_subject.specs.Input.{two_classes}
use Rattle.vsi_subject.specs.Projects.{IsFaulty}
use Rattle.vsi_subject.specs.Served.{Serves, unended_line}
use Rattle.vsi_subject.specs.Supplied.{begins_image}
use Rattle.vsi_subject.specs.Steering.{IsViewed}
use Rattle.vsi_subject.specs.Tried.{AreTried, BeginsSet, IsMade, IsTriedUnder, RunsMade, policy_path}
use Rattle.vsi_subject.specs.Feeding.{RefusesSettings}
use Rattle.vsi_subject.specs.Files.{BeginsAt, IsBudgetOf, LooksAt, LooksFor, Writes}
use Rattle.vsi_subject.specs.Failures.{status_of}
use Rattle.vsi_subject.specs.Works.{Drives, Lays, Lists, Replies, Runs, Talks, Work, end_of, spends, work_of}
use Rattle.vsi_subject.specs.Performed.{OfCompared, Tells, TellsBounding, compilation_of, profile_of, wanted_of}
use Rattle.vsi_subject.specs.Refusals.{AsksCanonical, AsksCheck, AsksClasses, AsksFlows, AsksImage, AsksMend, LacksBoundAt, LacksClassAt, LacksEither, LacksGiven, NoOther, RefusesFile, RefusesFiles, RefusesImage, RefusesLattice, RefusesSource, RefusesStart, RefusesStore, FailsBy}
use Rattle.vsi_subject.specs.Unstepped.{WhyCompareSteps, WhyMonitor, WhySteps}
use Rattle.vsi_subject.specs.Undriven.{FallsShort, IsUnusable, LacksDrive, LacksView, RefusesAsked, RefusesControl, RefusesSteering, SaysLine, WhyDrive}

-- ---- why each subcommand has failed.

-- `check` and `mend`: the lattice or the text is refused; with `--json` only the lattice, since a refusal of the text
-- is an answer.
abbrev pub RefusesJudged : Bool → Holding → Compilation → (Lattice → List ℕ → Answer → Type 0) → Unanswered → Type 0
RefusesJudged true holds c Ask = RefusesLattice holds c.lattice.now
RefusesJudged false holds c Ask = RefusesFiles holds c Ask

-- `check`: the same.
abbrev pub RefusesCheck : Holding → Judging → Unanswered → Type 0
RefusesCheck holds asked =
    RefusesJudged asked.is_json holds asked.compilation (AsksCheck asked.is_steady asked.compilation.is_strict)

-- `mend`: the same.
abbrev pub RefusesMend : Holding → Mending → Unanswered → Type 0
RefusesMend holds asked =
    RefusesJudged asked.is_json holds asked.compilation (AsksMend asked.is_applied asked.compilation.is_strict)

-- The bytes begin as those of an image, and the image is refused.
abbrev pub RefusesBytes : List ℕ → Unanswered → Type 0
RefusesBytes bytes reason = (begins_image bytes ≡ true) × ReadsImage bytes (Err reason)

-- `conform`: the image of a file is refused.
pub record RefusesSupplied (holds : Holding) (path : List ℕ) (reason : Unanswered) : Type 0 where
  pub bytes : List ℕ
  pub read : IsReadAt holds path bytes
  pub is : RefusesBytes bytes reason

-- `conform`: the lattice of the interface is refused, or the image.
abbrev pub RefusesConform : Holding → Conformance → Unanswered → Type 0
RefusesConform holds c reason =
    RefusesAsked holds c.interface.now reason ⊎ RefusesSupplied holds c.source.now reason

-- `run`: the trace of a run that is out of budget has been written.
pub record SpendsRun (holds : Holding) (e : Execution) (o : InitialStore) (traced : Bool) (old new : Option (List ℕ))
    : Type 0 where
  pub trace : List ℕ
  pub image : Image
  pub words : List ℤ
  pub begins : BeginsAt holds e o image words
  pub budget : ℕ
  pub within : IsBudgetOf e.budget image budget
  pub ran : RunsApart traced image words budget None trace
  pub written : Appends old new trace

-- `run`: the image is refused, or the words that it begins with, or the run is out of budget.
abbrev pub WhyRun : Holding → Execution → InitialStore → Bool → Option (List ℕ) → Option (List ℕ) → Unanswered → Type 0
WhyRun holds e o traced old new reason =
    RefusesImage holds e.image.now reason ⊎ RefusesStart holds e o reason
    ⊎ ((reason ≡ unanswered.OutOfBudget) × SpendsRun holds e o traced old new)

-- `view`: the run has no answer for the class.
pub record RefusesView (holds : Holding) (path class : List ℕ) (e : Execution) (o : InitialStore) (reason : Unanswered)
    : Type 0 where
  pub lattice : Lattice
  pub viewer : ℕ
  pub looks : LooksAt holds path class lattice viewer
  pub image : Image
  pub words : List ℤ
  pub begins : BeginsAt holds e o image words
  pub budget : ℕ
  pub within : IsBudgetOf e.budget image budget
  pub is : ViewsTo lattice viewer image words budget (Err reason)

-- `view`: the lattice is refused, or the image, or the words that it begins with, or the run has no answer.
abbrev pub WhyView : Holding → List ℕ → List ℕ → Execution → InitialStore → Unanswered → Type 0
WhyView holds path class e o reason =
    RefusesLattice holds path reason ⊎ RefusesImage holds e.image.now reason ⊎ RefusesStart holds e o reason
    ⊎ RefusesView holds path class e o reason

-- `compare`: the lattice lacks the class of a global.
abbrev pub RefusesComparison : Holding → Comparison → Unanswered → Type 0
RefusesComparison holds c reason =
    OfCompared holds c (λ l viewer im first second budget. ComparesTo l viewer im first second budget (Err reason))

-- `compare`: the lattice is refused, or the image, or a store, or the runs aren't compared.
abbrev pub WhyCompare : Holding → Comparison → Unanswered → Type 0
WhyCompare holds c reason =
    RefusesLattice holds c.lattice.now reason ⊎ RefusesImage holds c.image.now reason
    ⊎ RefusesStore holds c.image.now (Some c.stores.0) reason ⊎ RefusesStore holds c.image.now (Some c.stores.1) reason
    ⊎ RefusesComparison holds c reason

-- `compare`: the lattice has no class of the name, no bound was found for the image, or the budget isn't enough.
abbrev pub LacksCompare : Holding → Comparison → Failure → Type 0
LacksCompare holds c failure =
    LacksEither holds c.lattice.now c.class.now c.image.now c.budget failure
    ⊎ FallsShort holds c.is_unbounded (IsLatticeAt holds c.lattice.now) c.image.now c.budget failure

-- An image is refused with the error in the failure, whose text describes that error.
abbrev pub IsRefusedImage : Bool → Lattice → Image → Failure → Type 0
IsRefusedImage is_strict l image (fails.Audit text error) =
    audited.Refuses (class_named l) (order l) (profile_of is_strict) image error × IsAuditText l image error text.items
IsRefusedImage is_strict l image (fails.Unsteady text error) =
    steady.Refuses (class_named l) (order l) image error × IsUnsteadyText l image error text.items
IsRefusedImage is_strict l image failure = ⊥

-- `audit`: the image of the file is refused, and the text says why.
pub record RefusesAudit (holds : Holding) (a : Audit) (failure : Failure) : Type 0 where
  pub lattice : Lattice
  pub declared : IsLatticeAt holds a.lattice.now lattice
  pub image : Image
  pub held : IsImageAt holds a.image.now image
  pub is : IsRefusedImage a.is_strict lattice image failure

-- The image of a file has no text according to this error, which this text describes; nothing claims that it has none.
pub record LacksText (holds : Holding) (path : List ℕ) (error : AuditError) (text : List ℕ) : Type 0 where
  pub image : Image
  pub held : IsImageAt holds path image
  pub lattice : Lattice
  pub declared : Declares two_classes lattice
  pub told : IsAuditText lattice image error text

-- `source`: the image has no text.
abbrev pub HasNoText : Holding → List ℕ → Failure → Type 0
HasNoText holds path (fails.Audit text error) = LacksText holds path error text.items
HasNoText holds path failure = ⊥

-- A leak of the image of a source text that has a program, at the requested class and by a requested sign, and the text
-- that describes the leak.
pub record TellsLeak (holds : Holding) (s : Search) (text : List ℕ) : Type 0 where
  pub lattice : Lattice
  pub declared : IsLatticeAt holds s.lattice.now lattice
  pub source : List ℕ
  pub read : IsReadAt holds s.source.now source
  pub program : HasProgram (class_named lattice) source
  pub image : Image
  pub of_source : IsImageOf (class_named lattice) source image
  pub leak : Leak
  pub leaks : IsLeak (class_named lattice) (order lattice) image s.budget leak
  pub viewer : Option ℕ
  pub looks : LooksFor lattice s.class viewer
  pub wanted : IsWanted (wanted_of s viewer) (finding.Leak leak)
  pub told : IsLeakText lattice (globals image.globals.items) leak text

-- `leak`: a leak has been found.
abbrev pub ToldLeak : Holding → Search → Failure → Type 0
ToldLeak holds s (fails.Refused text None) = TellsLeak holds s text.items
ToldLeak holds s failure = ⊥

-- `leak`: the lattice has no class of the name that is given.
abbrev pub LacksSought : Holding → Search → Failure → Type 0
LacksSought holds s failure = IsSomeAnd s.class (λ class. LacksClassAt holds s.lattice.now class.now failure)

-- `leak`: the same, or a leak has been found.
abbrev pub OtherLeak : Holding → Search → Failure → Type 0
OtherLeak holds s failure = LacksSought holds s failure ⊎ ToldLeak holds s failure

-- `emit-c` and `bound`: the image is refused, or with a lattice the lattice or the source text.
abbrev pub WhyEmit : Holding → Option (Bor (List ℕ)) → Bor (List ℕ) → Unanswered → Type 0
WhyEmit holds None file = RefusesImage holds file.now
WhyEmit holds (Some lattice) file = RefusesFiles holds (compilation_of lattice file) (AsksImage false)

-- `leak`: the lattice is refused, or a source text without a program.
abbrev pub RefusesSearch : Holding → Search → Unanswered → Type 0
RefusesSearch holds s reason =
    RefusesLattice holds s.lattice.now reason ⊎ RefusesSource holds s.lattice.now s.source.now reason

-- `policy`: a lattice is refused, or the older one.
abbrev pub WhyPolicy : Holding → List ℕ → Option (Bor (List ℕ)) → Unanswered → Type 0
WhyPolicy holds lattice None reason = RefusesLattice holds lattice reason
WhyPolicy holds lattice (Some old) reason =
    RefusesLattice holds lattice reason ⊎ RefusesLattice holds old.now reason

-- `policy --interface`: the lattice of the interface is refused, or that of the older one.
abbrev pub WhyVisible : Holding → List ℕ → Option (Bor (List ℕ)) → Unanswered → Type 0
WhyVisible holds interface None reason = RefusesAsked holds interface reason
WhyVisible holds interface (Some old) reason =
    RefusesAsked holds interface reason ⊎ RefusesAsked holds old.now reason

-- A request for a document has none: a lattice is refused, or an image, the words that it begins with, a store, or the
-- text from which an image is made.
abbrev pub RefusesDocument : Holding → Document → Unanswered → Type 0
RefusesDocument holds (document.Sarif asked) reason = RefusesLattice holds asked.compilation.lattice.now reason
RefusesDocument holds (document.Classes asked) reason = RefusesLattice holds asked.lattice.now reason
RefusesDocument holds (document.Flows asked) reason = RefusesLattice holds asked.lattice.now reason
RefusesDocument holds (document.Audit asked) reason =
    RefusesLattice holds asked.lattice.now reason ⊎ RefusesImage holds asked.image.now reason
RefusesDocument holds (document.AuditSarif asked) reason =
    RefusesLattice holds asked.lattice.now reason ⊎ RefusesImage holds asked.image.now reason
RefusesDocument holds (document.Bound asked) reason = WhyEmit holds asked.lattice asked.file reason
RefusesDocument holds (document.Run e o) reason = RefusesImage holds e.image.now reason ⊎ RefusesStart holds e o reason
RefusesDocument holds (document.Compare comparison) reason = WhyCompare holds comparison reason
RefusesDocument holds (document.Leak search) reason = RefusesSearch holds search reason
RefusesDocument holds (document.List image) reason = RefusesImage holds image.now reason
RefusesDocument holds (document.Policy looking) reason = WhyPolicy holds looking.lattice.now looking.old reason
RefusesDocument holds (document.Visible visibility) reason =
    WhyVisible holds visibility.interface.now visibility.old reason
RefusesDocument holds (document.Layout source) reason = RefusesFile holds source.now AsksCanonical reason

-- A request for a document lacks a class or a bound, or an interface is refused.
abbrev pub LacksDocument : Holding → Document → Failure → Type 0
LacksDocument holds (document.Run e o) = LacksBoundAt holds e.image.now e.budget
LacksDocument holds (document.Compare comparison) = LacksCompare holds comparison
LacksDocument holds (document.Leak search) = LacksSought holds search
LacksDocument holds (document.Visible visibility) = IsUnusable
LacksDocument holds asked = NoOther

-- The request of `bound` about the image of an emission.
abbrev pub bounding_of : Emission → Bounding
bounding_of asked = record { lattice = asked.lattice; file = asked.file }

-- `emit-c --bounded`: no bound was found for the image, and the line is that of `bound`.
pub record LacksEmitBound (holds : Holding) (asked : Emission) (failure : Failure) : Type 0 where
  pub bounded : asked.is_bounded ≡ true
  pub text : Vec ℕ
  pub unbounded : TellsBounding false holds (bounding_of asked) false text
  pub says : SaysLine text.items failure

-- `draw`: the lattice is refused, or a source text without a program.
abbrev pub WhyDraw : Holding → List ℕ → Option (Bor (List ℕ)) → Unanswered → Type 0
WhyDraw holds lattice None reason = RefusesLattice holds lattice reason
WhyDraw holds lattice (Some source) reason =
    RefusesLattice holds lattice reason ⊎ RefusesSource holds lattice source.now reason

-- `view` within a boundary: the lattice lacks the class of a global, the boundary has a fault, the run is out of
-- budget, or by an interface a setting sets what is no input.
pub record RefusesViewWithin (holds : Holding) (asked : Viewing) (reason : Unanswered) : Type 0 where
  pub lattice : Lattice
  pub viewer : ℕ
  pub image : Image
  pub boundary : Boundary
  pub viewed : IsViewed holds asked lattice viewer image boundary
  pub words : List ℤ
  pub begins : BeginsAt holds asked.execution asked.initial_store image words
  pub budget : ℕ
  pub within : IsBudgetOf asked.execution.budget image budget
  pub is : RefusesControl boundary lattice viewer image budget reason
      ⊎ ((reason ≡ unanswered.OutOfBudget)
      × (view_of (controlled lattice viewer image budget boundary) budget words ≡ None))
      ⊎ RefusesSettings lattice viewer image boundary asked.initial_store reason

-- `view` within a boundary: the lattice is refused, or the image, or the words that it begins with, or the run has no
-- answer.
abbrev pub WhyViewWithin : Holding → Viewing → Unanswered → Type 0
WhyViewWithin holds asked reason =
    RefusesSteering holds asked.policy reason ⊎ RefusesImage holds asked.execution.image.now reason
    ⊎ RefusesStart holds asked.execution asked.initial_store reason ⊎ RefusesViewWithin holds asked reason

-- `try`: the file of the lattice that a text names is refused.
abbrev pub RefusesNamed : Holding → List ℕ → Option (List ℕ) → Unanswered → Type 0
RefusesNamed holds source (Some path) reason = RefusesLattice holds (policy_path source path) reason
RefusesNamed holds source None reason = ⊥

-- `try`: the file of the lattice that a text is tried under is refused.
abbrev pub RefusesUnder : Holding → Option (Bor (List ℕ)) → List ℕ → List ℕ → Unanswered → Type 0
RefusesUnder holds (Some path) source text reason = RefusesLattice holds path.now reason
RefusesUnder holds None source text reason = RefusesNamed holds source (named_policy text) reason

-- `try`: the image made from a text doesn't begin, because a setting is wrong.
pub record RefusesBegin (l : Lattice) (a : Attempt) (text : List ℕ) (reason : Unanswered) : Type 0 where
  pub image : Image
  pub made : IsMade l text image
  pub is : BeginsSet image a.settings.items (Err reason)

-- `try`: the text or a setting is refused, or the run has no answer.
abbrev pub RefusesRun : Lattice → Option ℕ → Attempt → List ℕ → Unanswered → Type 0
RefusesRun l viewer a text reason =
    BuildsTo l Base text (Err reason) ⊎ RefusesBegin l a text reason ⊎ RunsMade l viewer a text (Err reason)

-- `try`: the lattice file of a source text is refused.
pub record RefusesTriedLattice (holds : Holding) (a : Attempt) (reason : Unanswered) : Type 0 where
  pub text : List ℕ
  pub read : IsReadAt holds a.source.now text
  pub is : RefusesUnder holds a.lattice a.source.now text reason

-- `try`: a source text is refused, or its run has no answer.
pub record RefusesTriedText (holds : Holding) (a : Attempt) (reason : Unanswered) : Type 0 where
  pub text : List ℕ
  pub lattice : Lattice
  pub viewer : Option ℕ
  pub tried : AreTried holds a lattice viewer text
  pub is : RefusesRun lattice viewer a text reason

-- `try`: the lattice file is refused, or the source text.
abbrev pub WhyTry : Holding → Attempt → Unanswered → Type 0
WhyTry holds a reason = RefusesTriedLattice holds a reason ⊎ RefusesTriedText holds a reason

-- `try`: the lattice of a source text has no class of the name that is given.
pub record LacksTried (holds : Holding) (a : Attempt) (failure : Failure) : Type 0 where
  pub text : List ℕ
  pub read : IsReadAt holds a.source.now text
  pub lattice : Lattice
  pub under : IsTriedUnder holds a.lattice a.source.now text lattice
  pub lacks : LacksGiven lattice a.class failure

-- `check` of a project: the lattice file of a program is refused.
abbrev pub RefusesSome : Holding → Unanswered → Type 0
RefusesSome holds reason = (path : List ℕ) × RefusesLattice holds path reason

-- ---- why each request has failed.

-- A request that answers has no answer for this reason.
abbrev pub Refuses : Holding → Request → Failure → Type 0
Refuses holds (request.Try attempt) = FailsBy (WhyTry holds attempt) (LacksTried holds attempt)
Refuses holds (request.Check asked) = FailsBy (RefusesCheck holds asked) NoOther
Refuses holds (request.Survey asked) = FailsBy (RefusesLattice holds asked.lattice.now) NoOther
Refuses holds (request.Project asked) = FailsBy (RefusesSome holds) IsFaulty
Refuses holds (request.Document asked) = FailsBy (RefusesDocument holds asked) (LacksDocument holds asked)
Refuses holds (request.Conform asked) = FailsBy (RefusesConform holds asked) IsUnusable
Refuses holds (request.Classes c) = FailsBy (RefusesFiles holds c (AsksClasses c.is_strict)) NoOther
Refuses holds (request.Mend asked) = FailsBy (RefusesMend holds asked) NoOther
Refuses holds (request.Build c image) = FailsBy (RefusesFiles holds c (AsksImage c.is_strict)) NoOther
Refuses holds (request.List image) = FailsBy (RefusesFile holds image.now ListsTo) NoOther
Refuses holds (request.Audit asked) =
    FailsBy
    (λ reason. RefusesLattice holds asked.lattice.now reason ⊎ RefusesImage holds asked.image.now reason)
    (RefusesAudit holds asked)
Refuses holds (request.Source image) = FailsBy (RefusesImage holds image.now) (HasNoText holds image.now)
Refuses holds (request.EmitC asked) =
    FailsBy (WhyEmit holds asked.lattice asked.file) (LacksEmitBound holds asked)
Refuses holds (request.Bound asked) = FailsBy (WhyEmit holds asked.lattice asked.file) NoOther
Refuses holds (request.View lattice class e o) =
    FailsBy (WhyView holds lattice.now class.now e o)
    (LacksEither holds lattice.now class.now e.image.now e.budget)
Refuses holds (request.ViewWithin asked) = FailsBy (WhyViewWithin holds asked) (LacksView holds asked)
Refuses holds (request.Compare comparison) = FailsBy (WhyCompare holds comparison) (LacksCompare holds comparison)
Refuses holds (request.CompareSteps c is_json) =
    FailsBy (WhyCompareSteps holds c) (LacksClassAt holds c.lattice.now c.class.now)
Refuses holds (request.Steps stepping is_json) = FailsBy (WhySteps holds stepping) NoOther
Refuses holds (request.Monitor stepping rule is_json) = FailsBy (WhyMonitor holds stepping) NoOther
Refuses holds (request.Leak search) = FailsBy (RefusesSearch holds search) (OtherLeak holds search)
Refuses holds (request.Report page) = FailsBy (RefusesLattice holds page.compilation.lattice.now) NoOther
Refuses holds (request.Draw drawing) = FailsBy (WhyDraw holds drawing.lattice.now drawing.source) NoOther
Refuses holds (request.Policy looking) = FailsBy (WhyPolicy holds looking.lattice.now looking.old) NoOther
Refuses holds (request.Visible visibility) =
    FailsBy (WhyVisible holds visibility.interface.now visibility.old) IsUnusable
Refuses holds (request.Format source) = FailsBy (RefusesFile holds source.now AsksCanonical) NoOther
Refuses holds asked = FailsBy (λ reason. ⊥) NoOther

-- A bad answer has been written, after which the program fails so.
pub record IsBad (holds : Holding) (asked : Request) (old new : Option (List ℕ)) (failure : Failure) : Type 0 where
  pub is : failure ≡ end_of (spends asked)
  pub written : Writes (Tells holds asked false) old new

-- A request that answers has failed: there is no answer, or a bad one, or it couldn't be written or put into its file.
abbrev pub WhyAnswer : Holding → Request → Option (List ℕ) → Option (List ℕ) → Failure → Type 0
WhyAnswer holds asked old new failure =
    Refuses holds asked failure ⊎ IsBad holds asked old new failure ⊎ (3 < status_of failure)

-- The reason why a request that is carried out so has failed.
abbrev pub WhyWork : Work → Holding → Request → Option (List ℕ) → Option (List ℕ) → Failure → Type 0
WhyWork (Lists c has_walks) holds asked old new =
    FailsBy (RefusesFiles holds c (AsksFlows has_walks c.is_strict)) NoOther
WhyWork (Runs e o has_trace has_count) holds asked old new =
    FailsBy (WhyRun holds e o has_trace old new) (LacksBoundAt holds e.image.now e.budget)
WhyWork (Drives driving) holds asked old new = FailsBy (WhyDrive holds driving) (LacksDrive holds driving)
WhyWork (Lays layout) holds asked old new =
    FailsBy (RefusesFile holds layout.source.now AsksCanonical)
    (OtherLayout layout.is_checked holds layout.source.now old new)
WhyWork Talks holds asked old new =
    FailsBy (λ reason. ⊥) (λ failure. SaysLine unended_line failure × Serves old new)
WhyWork Replies holds asked old new = WhyAnswer holds asked old new

-- The reason why a request has failed.
abbrev pub Why : Holding → Request → Option (List ℕ) → Option (List ℕ) → Failure → Type 0
Why holds asked old new = WhyWork (work_of asked) holds asked old new
