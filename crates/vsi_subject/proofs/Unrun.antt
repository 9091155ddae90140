-- The reason why an image isn't run, or runs aren't compared, as a failure claims it.
use Rattle.std.proofs.Common.{◌≡◌, ℕ, ℤ, ◌<◌, ◌⊎◌, List, Result, Err, inl, inr, length, refl, sym, subst, arith}
use Rattle.std.specs.Prelude.{None, Option, IfErr, IsErrAnd}
use Rattle.std.specs.Borrow.{Bor}
use Rattle.std.proofs.lemmas.Result.{IfErr-weaker}
use Rattle.std.specs.Global.{Vec}
use Rattle.vsi_lattice.specs.NamePlaces.{texts}
use Rattle.vsi_lattice.specs.declared.lattice.Lattice.{Lattice}
use Rattle.vsi_image.specs.declared.instr.Image.{Image}
use Rattle.vsi_image.specs.Fields.{globals}
use Rattle.vsi_store.specs.File.{IsRefusal}
use Rattle.vsi_store.specs.declared.reader.StoreError.{StoreError}
use Rattle.vsi_drive.specs.Starts.{Begins}
use Rattle.vsi_audit.specs.Telling.{IsAuditText}
use Rattle.vsi_audit.specs.declared.flow.AuditError.{AuditError}
use Rattle.vsi_answers.specs.Answers.{Because}
use Rattle.vsi_answers.specs.Judged.{Declares, IsStoreFault, TellsFault}
use Rattle.vsi_answers.specs.Requests.{BeginsWith}
use Rattle.vsi_answers.specs.declared.unanswered.Cause.TheVariants as cause
use Rattle.vsi_answers.specs.declared.unanswered.Unanswered.{Unanswered}
use Rattle.vsi_answers.specs.declared.unanswered.Unanswered.TheVariants as unanswered
use Rattle.vsi_answers.specs.declared.diagnostic.Fault.{Fault}
use Rattle.vsi_answers.specs.declared.diagnostic.Fault.TheVariants as fault
use Rattle.vsi_drive.specs.Engine.{IsOfWriting}
use Rattle.vsi_drive.specs.declared.engine.EngineError.{EngineError}
use Rattle.vsi_drive.specs.declared.engine.EngineError.TheVariants as engine
use Rattle.vsi_arguments.specs.declared.request.Budget.{Budget}
use Rattle.vsi_arguments.specs.declared.request.Budget.TheVariants.{Auto}
use Rattle.vsi_arguments.specs.declared.request.Execution.{Execution}
use Rattle.vsi_arguments.specs.declared.request.InitialStore.{InitialStore}
use Rattle.vsi_subject.specs.declared.failure.Failure.{Failure}
use Rattle.vsi_subject.specs.declared.failure.Failure.TheVariants as fails
use Rattle.vsi_subject.specs.Holding.{Holding, IsImageAt, IsLatticeAt, IsStoreAt}
use Rattle.vsi_subject.specs.Input.{two_classes}
use Rattle.vsi_subject.specs.Files.{BeginsAt}
use Rattle.vsi_subject.specs.Refusals.{IsNoMemory, IsUnbounded, LacksBound, LacksBoundAt, LacksClass, LacksClassAt, NoOther, RefusesImage, RefusesLattice, RefusesStart, RefusesStore, FailsBy}
use Rattle.vsi_subject.specs.Reasons.{HasNoText}
use Rattle.vsi_subject.specs.Undriven.{IsUnusable}
use Rattle.vsi_subject.specs.Failures.{status_of}
use Rattle.vsi_subject.proofs.Reasons.{FailsBy-weaker, handed, late_fails, failed_by, fails_by}

-- The image of a run is refused, or the words that it begins with.
abbrev pub Unstarted : Holding → Execution → InitialStore → Unanswered → Type 0
Unstarted holds e o reason = RefusesImage holds e.image.now reason ⊎ RefusesStart holds e o reason

-- A lattice file is refused, or an image.
abbrev pub Unseen : Holding → List ℕ → List ℕ → Unanswered → Type 0
Unseen holds lattice image reason = RefusesLattice holds lattice reason ⊎ RefusesImage holds image reason

-- Lack of memory claims no reason.
pub memory_fails : (why : Unanswered → Type 0) (other : Failure → Type 0) (failure : Failure) → failure ≡ fails.Memory →
    FailsBy why other failure
memory_fails why other failure is = subst (FailsBy why other) (sym is) tt

-- Nor does it where it is passed on.
pub memory_failed : {T : Type 0} (why : Unanswered → Type 0) (other : Failure → Type 0) (result : Result T Failure)
    (failure : Failure) → IsErrAnd result (λ s. s ≡ failure) → failure ≡ fails.Memory → IfErr result (FailsBy why other)
memory_failed why other result failure is wants =
    handed (FailsBy why other) failure result is (memory_fails why other failure wants)

-- A late failure that is passed on claims no reason.
pub handed_late : {T : Type 0} (why : Unanswered → Type 0) (other : Failure → Type 0) (result : Result T Failure) →
    IfErr result (λ failure. 3 < status_of failure) → IfErr result (FailsBy why other)
handed_late why other result late =
    IfErr-weaker result (λ failure. 3 < status_of failure) (FailsBy why other) (late_fails why other) late

-- A fault of the output claims no reason.
pub fault_fails : (why : Unanswered → Type 0) (other : Failure → Type 0) (failure : Failure) → status_of failure ≡ 4 →
    FailsBy why other failure
fault_fails why other failure four = late_fails why other failure (omega (arith, four))

-- Nor does the answer that such a fault is.
pub fault_failed : {T : Type 0} (why : Unanswered → Type 0) (other : Failure → Type 0) (result : Result T Failure) →
    IfErr result (λ failure. status_of failure ≡ 4) → IfErr result (FailsBy why other)
fault_failed why other result fault =
    IfErr-weaker result (λ failure. status_of failure ≡ 4) (FailsBy why other) (fault_fails why other) fault

-- A class that the lattice of a file lacks is missing, where its failure is passed on.
pub lacks_failed : {T : Type 0} (holds : Holding) (path name : List ℕ) (why : Unanswered → Type 0) (l : Lattice)
    (result : Result T Failure) (failure : Failure) → IsLatticeAt holds path l → IsErrAnd result (λ s. s ≡ failure) →
    FailsBy (λ reason. ⊥) (LacksClass l name) failure → IfErr result (FailsBy why (LacksClassAt holds path name))
lacks_failed holds path name why l result failure at is told =
    handed (FailsBy why (LacksClassAt holds path name)) failure result is
    (FailsBy-weaker (λ reason. ⊥) why (LacksClass l name) (LacksClassAt holds path name) (λ reason none. absurd none)
    (λ s lacks. (l, at, lacks)) failure told)

-- Why a lattice file or an image is refused is why the whole has failed, and a class that is missing is missing.
pub unseen_failed : {T : Type 0} (holds : Holding) (lattice image : List ℕ) (so : Unanswered → Type 0)
    (other : Failure → Type 0) (result : Result T Failure) (failure : Failure) →
    ((reason : Unanswered) → RefusesLattice holds lattice reason → so reason) →
    ((reason : Unanswered) → RefusesImage holds image reason → so reason) → IsErrAnd result (λ s. s ≡ failure) →
    FailsBy (Unseen holds lattice image) other failure → IfErr result (FailsBy so other)
unseen_failed holds lattice image so other result failure of_lattice of_image is told =
    handed (FailsBy so other) failure result is
    (FailsBy-weaker (Unseen holds lattice image) so other other
    (λ reason unseen. elim unseen [
      | inl refused ↦ of_lattice reason refused
      | inr refused ↦ of_image reason refused
    ])
    (λ s lacks. lacks) failure told)

-- A failure at something missing is one at something missing of a wider kind.
pub more_failed : {T : Type 0} (why : Unanswered → Type 0) (other more : Failure → Type 0) (result : Result T Failure) →
    ((failure : Failure) → other failure → more failure) → IfErr result (FailsBy why other) → IfErr result (FailsBy why more)
more_failed why other more result f is =
    IfErr-weaker result (FailsBy why other) (FailsBy why more)
    (FailsBy-weaker why why other more (λ reason so. so) f) is

-- An image for which no bound was found has none for the budget `auto`.
pub lacks_bound : (image : Image) (failure : Failure) → IsUnbounded image failure → LacksBound Auto image failure
lacks_bound image (fails.Refused text None) lacks = (refl, lacks)
lacks_bound image failure lacks = absurd lacks

-- If no bound was found for the image of a file, the caller that passes the failure on lacks that bound.
pub unbounded_failed : {T : Type 0} (holds : Holding) (path : List ℕ) (budget : Budget) (image : Image)
    (why : Unanswered → Type 0) (other : Failure → Type 0) (result : Result T Failure) (failure : Failure) →
    IsImageAt holds path image → ((s : Failure) → LacksBoundAt holds path budget s → other s) →
    IsErrAnd result (λ s. s ≡ failure) → FailsBy (λ reason. ⊥) (LacksBound budget image) failure →
    IfErr result (FailsBy why other)
unbounded_failed holds path budget image why other result failure held f is told =
    handed (FailsBy why other) failure result is
    (FailsBy-weaker (λ reason. ⊥) why (LacksBound budget image) other (λ reason none. absurd none)
    (λ s lacks. f s (image, held, lacks)) failure told)

-- An image and the words with which it begins, from the contents of the files.
pub begins_at : (holds : Holding) (e : Execution) (o : InitialStore) (image : Image) (file given : List ℕ)
    (words : List ℤ) → IsImageAt holds e.image.now image → IsStoreAt holds e.store file → given ≡ file →
    Begins image given (texts o.settings.items) o.is_full words → length words ≡ length image.globals.items →
    BeginsAt holds e o image words
begins_at holds e o image file given words held read same begins whole = record {
  image = held;
  file = file;
  read = read;
  begins = subst (λ f. Begins image f (texts o.settings.items) o.is_full words) same begins;
  whole = whole;
}

-- The words with which a run would begin are refused for the contents of the files.
pub start_failed : {T : Type 0} (holds : Holding) (e : Execution) (o : InitialStore) (so : Unanswered → Type 0)
    (other : Failure → Type 0) (image : Image) (file given : List ℕ) (result : Result T Failure) (failure : Failure) →
    IsImageAt holds e.image.now image → IsStoreAt holds e.store file → given ≡ file →
    ((reason : Unanswered) → RefusesStart holds e o reason → so reason) → IsErrAnd result (λ s. s ≡ failure) →
    FailsBy (λ reason. BeginsWith image given (texts o.settings.items) o.is_full (Err reason)) NoOther failure →
    IfErr result (FailsBy so other)
start_failed holds e o so other image file given result failure held read same f is told =
    failed_by (λ reason. BeginsWith image given (texts o.settings.items) o.is_full (Err reason)) so other
    (λ reason why. f reason (record {
      image = image;
      held = held;
      file = file;
      read = read;
      is = subst (λ b. BeginsWith image b (texts o.settings.items) o.is_full (Err reason)) same why;
    }))
    result failure is told

-- A store file, or no bytes without one, is refused for an image.
abbrev pub RefusesWords : Holding → Option (Bor (List ℕ)) → Image → Unanswered → Type 0
RefusesWords holds path image reason =
    (file : List ℕ) × IsStoreAt holds path file × Because (TellsFault (IsStoreFault image file)) ⊥ reason

-- A report of one fault is a report of a fault of its kind.
pub kind_told : (Kind : Fault → Type 0) (fault : Fault) → (IsNoMemory fault → Kind fault) → (reason : Unanswered) →
    Because (TellsFault (λ f. (f ≡ fault) × IsNoMemory f)) ⊥ reason → Because (TellsFault Kind) ⊥ reason
kind_told Kind fault kind (unanswered.Refused text (cause.Source e)) told = absurd told
kind_told Kind fault kind (unanswered.Refused text (cause.File f)) told =
    (subst Kind (sym told.0.0) (kind (subst IsNoMemory told.0.0 told.0.1)), told.1)
kind_told Kind fault kind (unanswered.Refused text (cause.Start f)) told = absurd told
kind_told Kind fault kind (unanswered.Refused text (cause.Steady e)) told = absurd told
kind_told Kind fault kind (unanswered.Refused text (cause.Raised e)) told = absurd told
kind_told Kind fault kind unanswered.OutOfBudget told = absurd told
kind_told Kind fault kind unanswered.Memory told = tt

-- The failure for a refused store file reports its fault.
pub words_failure : (holds : Holding) (path : Option (Bor (List ℕ))) (image : Image) (file : List ℕ) (error : StoreError)
    (failure : Failure) → IsStoreAt holds path file → IsRefusal (globals image.globals.items) file error →
    FailsBy (Because (TellsFault (λ f. (f ≡ fault.Store error) × IsNoMemory f)) ⊥) NoOther failure →
    FailsBy (RefusesWords holds path image) NoOther failure
words_failure holds path image file error failure read refused told =
    fails_by (Because (TellsFault (λ f. (f ≡ fault.Store error) × IsNoMemory f)) ⊥) (RefusesWords holds path image)
    NoOther
    (λ reason is. (
      file,
      read,
      kind_told (IsStoreFault image file) (fault.Store error) (λ other. (other, refused)) reason is,
    ))
    failure told

-- A store file is refused for the image of a file.
pub store_failed : {T : Type 0} (holds : Holding) (path : List ℕ) (store : Option (Bor (List ℕ)))
    (so : Unanswered → Type 0) (other : Failure → Type 0) (image : Image) (result : Result T Failure) (failure : Failure) →
    IsImageAt holds path image →
    ((reason : Unanswered) → RefusesStore holds path store reason → so reason) → IsErrAnd result (λ s. s ≡ failure) →
    FailsBy (RefusesWords holds store image) NoOther failure → IfErr result (FailsBy so other)
store_failed holds path store so other image result failure held f is told =
    failed_by (RefusesWords holds store image) so other
    (λ reason refused. f reason (record {
      image = image;
      held = held;
      file = refused.0;
      read = refused.1;
      is = refused.2;
    }))
    result failure is told

-- A call that only writes fails at a fault of the output, or for lack of memory.
pub ended_fails : (why : Unanswered → Type 0) (other : Failure → Type 0) (error : EngineError) (failure : Failure) →
    IsOfWriting error → (error ≡ engine.WriteFault → status_of failure ≡ 4) → (error ≡ engine.Memory → failure ≡
    fails.Memory) →
    FailsBy why other failure
ended_fails why other engine.ReadFault failure only write memory = absurd only
ended_fails why other engine.WriteFault failure only write memory = fault_fails why other failure (write refl)
ended_fails why other (engine.Compile e) failure only write memory = absurd only
ended_fails why other (engine.Decode e) failure only write memory = absurd only
ended_fails why other (engine.Verify e) failure only write memory = absurd only
ended_fails why other (engine.Store e) failure only write memory = absurd only
ended_fails why other engine.Memory failure only write memory = memory_fails why other failure (memory refl)

-- The lack of a text for an image is reported under the two classes.
pub textless_fails : (why : Unanswered → Type 0) (holds : Holding) (path : List ℕ) (image shown : Image) (l : Lattice)
    (error : AuditError) (failure : Failure) → IsImageAt holds path image → Declares two_classes l → shown ≡ image →
    FailsBy (λ reason. ⊥)
    (λ s. (text : Vec ℕ) × (s ≡ fails.Audit text error) × IsAuditText l shown error text.items) failure →
    FailsBy why (HasNoText holds path) failure
textless_fails why holds path image shown l error failure held declared same told =
    FailsBy-weaker (λ reason. ⊥) why
    (λ s. (text : Vec ℕ) × (s ≡ fails.Audit text error) × IsAuditText l shown error text.items)
    (HasNoText holds path) (λ reason none. absurd none)
    (λ s is. subst (HasNoText holds path) (sym is.1)
    (record {
      image = image;
      held = held;
      lattice = l;
      declared = declared;
      told = subst (λ i. IsAuditText l i error is.0.items) same is.2;
    }))
    failure told

-- An interface that is refused has no reason of another kind.
pub unusable_fails : (why : Unanswered → Type 0) (other : Failure → Type 0) →
    ((failure : Failure) → IsUnusable failure → other failure) → (failure : Failure) → FailsBy (λ reason. ⊥) IsUnusable failure →
    FailsBy why other failure
unusable_fails why other f failure told =
    FailsBy-weaker (λ reason. ⊥) why IsUnusable other (λ reason none. absurd none) f failure told
