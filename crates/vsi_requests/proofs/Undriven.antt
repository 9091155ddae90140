-- The words that a controller begins with, and the reason why it doesn't, as a failure claims it.
use Rattle.std.proofs.Common.{◌≡◌, ◌⊎◌, ◌∙◌, ℕ, ℤ, List, [], Result, Err, Some, false, inl, inr, refl, sym, ap, subst}
use Rattle.std.specs.Prelude.{Bool, Option, IfErr, IfOk, IsErrAnd}
use Rattle.std.specs.Borrow.{Bor}
use Rattle.vsi_lattice.specs.LatticeView.{class_named}
use Rattle.vsi_lattice.specs.declared.lattice.Lattice.{Lattice}
use Rattle.vsi_image.specs.declared.instr.Image.{Image}
use Rattle.vsi_image.specs.Fields.{globals}
use Rattle.vsi_store.specs.File.{Tells}
use Rattle.vsi_store.specs.View.{first_unknown}
use Rattle.vsi_store.specs.declared.views.ViewError.{ViewError}
use Rattle.vsi_store.specs.declared.views.ViewError.TheVariants as views
use Rattle.vsi_answers.specs.declared.diagnostic.Fault.TheVariants as fault
use Rattle.vsi_drive.specs.Boundary.{Boundary}
use Rattle.vsi_drive.specs.BoundaryFaults.{boundary_fault}
use Rattle.vsi_drive.specs.Control.{controlled}
use Rattle.vsi_drive.specs.declared.boundary.BoundaryFault.{BoundaryFault}
use Rattle.vsi_drive.specs.declared.boundary.StartFault.{StartFault}
use Rattle.vsi_drive.specs.declared.boundary.StartFault.TheVariants as start
use Rattle.vsi_drive.specs.Starts.{Begins, unnamed_in}
use Rattle.vsi_answers.specs.Requests.{BeginsWith}
use Rattle.vsi_answers.specs.Answers.{Because}
use Rattle.vsi_answers.specs.Judged.{IsViewFault, TellsFault, TellsStartFault}
use Rattle.vsi_answers.specs.declared.unanswered.Cause.TheVariants as cause
use Rattle.vsi_answers.specs.declared.unanswered.Unanswered.{Unanswered}
use Rattle.vsi_answers.specs.declared.unanswered.Unanswered.TheVariants as unanswered
use Rattle.vsi_arguments.specs.declared.request.Budget.{Budget}
use Rattle.vsi_arguments.specs.declared.request.DrivePolicy.{DrivePolicy}
use Rattle.vsi_arguments.specs.declared.request.DrivePolicy.TheVariants as policy
use Rattle.vsi_arguments.specs.declared.request.Driving.{Driving}
use Rattle.vsi_subject.specs.declared.failure.Failure.{Failure}
use Rattle.vsi_subject.specs.Holding.{Holding, IsImageAt, IsStoreAt}
use Rattle.vsi_subject.specs.Files.{IsBudgetOf, IsFullAt, IsStoredAt}
use Rattle.vsi_subject.specs.Refusals.{IsNoMemory, NoOther, RefusesFirst, RefusesImage, FailsBy}
use Rattle.vsi_subject.specs.Noted.{NotesDrive, TellsBudget}
use Rattle.vsi_subject.specs.Steering.{IsLatticeOf, IsSteered, IsSteeredBy}
use Rattle.vsi_subject.specs.Undriven.{FallsShort, IsBoundaryStart, LacksDrive, LacksSteering, RefusesControl, RefusesSteering, SaysShort, WhyDrive}
use Rattle.vsi_subject.proofs.Reasons.{FailsBy-weaker, handed, failed_by, fails_by}
use Rattle.vsi_subject.proofs.Unrun.{kind_told}

-- A run that begins with a store file alone begins with its words.
pub begins_stored : (holds : Holding) (store : Option (Bor (List ℕ))) (im : Image) (file : List ℕ) (is_full : Bool)
    (words : List ℤ) → IsStoreAt holds store file → Begins im file [] is_full words → IsStoredAt holds store im words
begins_stored holds store im file is_full words read begins =
    let same : begins.behind.words ≡ begins.first.words =
    subst (λ r. IfOk r (λ b. b.words ≡ begins.first.words)) begins.set refl in
    record {
      file = file;
      read = read;
      told = subst (Tells file (globals im.globals.items)) (sym (begins.is ∙ same)) begins.told.tells;
    }

-- And with each global that must be in it.
pub begins_full : (holds : Holding) (store : Option (Bor (List ℕ))) (im : Image) (file : List ℕ) (is_full : Bool)
    (words : List ℤ) → IsStoreAt holds store file → Begins im file [] is_full words → IsFullAt holds store im is_full
begins_full holds store im file is_full words read begins =
    let same : begins.behind.named ≡ begins.first.named =
    subst (λ r. IfOk r (λ b. b.named ≡ begins.first.named)) begins.set refl in
    record {
      file = file;
      read = read;
      named = begins.first.named;
      names = begins.told.names;
      full = ap (unnamed_in is_full) (sym same) ∙ begins.full;
    }

-- A store file, or no bytes without one, doesn't do for an image to begin with.
abbrev pub RefusesBeginning : Holding → Option (Bor (List ℕ)) → Image → Bool → Unanswered → Type 0
RefusesBeginning holds store image is_full reason =
    (file : List ℕ) × IsStoreAt holds store file × BeginsWith image file [] is_full (Err reason)

-- It doesn't do for the image of a file.
pub first_failed : {T : Type 0} (holds : Holding) (path : List ℕ) (store : Option (Bor (List ℕ)))
    (is_full : Bool) (so : Unanswered → Type 0) (other : Failure → Type 0) (image : Image) (result : Result T Failure)
    (failure : Failure) → IsImageAt holds path image →
    ((reason : Unanswered) → RefusesFirst holds path store is_full reason → so reason) →
    IsErrAnd result (λ s. s ≡ failure) → FailsBy (RefusesBeginning holds store image is_full) NoOther failure →
    IfErr result (FailsBy so other)
first_failed holds path store is_full so other image result failure held f is told =
    failed_by (RefusesBeginning holds store image is_full) so other
    (λ reason refused. f reason (record {
      image = image;
      held = held;
      file = refused.0;
      read = refused.1;
      is = refused.2;
    }))
    result failure is told

-- Why there is no controller: a global, the first such one, has a class that the lattice lacks.
abbrev pub LacksController : Lattice → Image → ViewError → Type 0
LacksController l image error =
    (i : ℕ) × (first_unknown (class_named l) 0 (globals image.globals.items) ≡ Some i)
    × (error ≡ views.ClassNotInLattice i)

-- The lack of a class is the reported fault.
lacking_fault : (l : Lattice) (image : Image) (error : ViewError) → LacksController l image error →
    IsViewFault l image (fault.View error)
lacking_fault l image error (i, first, is) = subst (λ e. IsViewFault l image (fault.View e)) (sym is) first

-- The failure for that fault claims that the controller is refused.
pub controller_fails : (b : Boundary) (l : Lattice) (driver : ℕ) (image : Image) (budget : ℕ) (error : ViewError)
    (failure : Failure) → LacksController l image error →
    FailsBy (Because (TellsFault (λ f. (f ≡ fault.View error) × IsNoMemory f)) ⊥) NoOther failure →
    FailsBy (RefusesControl b l driver image budget) NoOther failure
controller_fails b l driver image budget error failure lacks told =
    fails_by (Because (TellsFault (λ f. (f ≡ fault.View error) × IsNoMemory f)) ⊥)
    (RefusesControl b l driver image budget) NoOther
    (λ reason is. inl (kind_told (IsViewFault l image) (fault.View error) (λ other. lacking_fault l image error lacks)
    reason is))
    failure told

-- A report of one fault of a start is a report of a fault of its kind.
pub start_told : (Kind : StartFault → Type 0) (f : StartFault) → Kind f → (reason : Unanswered) →
    Because (TellsStartFault (λ g. g ≡ f)) ⊥ reason → Because (TellsStartFault Kind) ⊥ reason
start_told Kind f kind (unanswered.Refused text (cause.Source e)) told = absurd told
start_told Kind f kind (unanswered.Refused text (cause.File g)) told = absurd told
start_told Kind f kind (unanswered.Refused text (cause.Start g)) told = (subst Kind (sym told.0) kind, told.1)
start_told Kind f kind (unanswered.Refused text (cause.Steady e)) told = absurd told
start_told Kind f kind (unanswered.Refused text (cause.Raised e)) told = absurd told
start_told Kind f kind unanswered.OutOfBudget told = absurd told
start_told Kind f kind unanswered.Memory told = tt

-- The failure for a fault of the boundary claims that the controller is refused.
pub boundary_fails : (b : Boundary) (l : Lattice) (driver : ℕ) (image : Image) (budget : ℕ) (f : BoundaryFault)
    (failure : Failure) → boundary_fault (controlled l driver image budget b) ≡ Some f →
    FailsBy (Because (TellsStartFault (λ g. g ≡ start.Boundary f)) ⊥) NoOther failure →
    FailsBy (RefusesControl b l driver image budget) NoOther failure
boundary_fails b l driver image budget f failure is told =
    fails_by (Because (TellsStartFault (λ g. g ≡ start.Boundary f)) ⊥) (RefusesControl b l driver image budget)
    NoOther
    (λ reason why. inr (start_told (IsBoundaryStart (controlled l driver image budget b)) (start.Boundary f)
    (f, refl, is) reason why))
    failure told

-- A drive whose controller is refused fails for that reason.
pub control_failed : {T : Type 0} (holds : Holding) (d : Driving) (l : Lattice) (driver : ℕ) (image : Image)
    (b : Boundary) (budget : ℕ) (result : Result T Failure) (failure : Failure) → IsSteered holds d l driver image b →
    IsImageAt holds d.execution.image.now image → IsBudgetOf d.execution.budget image budget →
    IsErrAnd result (λ s. s ≡ failure) → FailsBy (RefusesControl b l driver image budget) NoOther failure →
    IfErr result (FailsBy (WhyDrive holds d) (LacksDrive holds d))
control_failed holds d l driver image b budget result failure steered held within is told =
    failed_by (RefusesControl b l driver image budget) (WhyDrive holds d) (LacksDrive holds d)
    (λ reason refused. elim refused [
      | inl view ↦ inr (inr (inr (inl (record {
        lattice = l;
        driver = driver;
        image = image;
        boundary = b;
        steered = steered;
        held = held;
        is = view;
      }))))
      | inr boundary ↦ inr (inr (inr (inr (record {
        lattice = l;
        driver = driver;
        image = image;
        boundary = b;
        steered = steered;
        held = held;
        budget = budget;
        within = within;
        is = boundary;
      }))))
    ])
    result failure is told

-- The lattice by which a class drives an image is that of the drive.
pub steered_lattice : (holds : Holding) (class : List ℕ) (p : DrivePolicy) (is_unbounded : Bool) (l : Lattice)
    (driver : ℕ) (image : Image) (b : Boundary) → IsSteeredBy holds class p is_unbounded l driver image b →
    IsLatticeOf holds p l
steered_lattice holds class (policy.Lattice path lists) is_unbounded l driver image b steered = steered.looks.lattice
steered_lattice holds class (policy.Interface path) is_unbounded l driver image b steered =
    (steered.asked, steered.force)

-- The lines about the budget of a drive are those of the drive.
pub noted_drive : (holds : Holding) (d : Driving) (l : Lattice) (driver : ℕ) (image : Image) (b : Boundary) (budget : ℕ)
    (note : List ℕ) → IsSteered holds d l driver image b → IsImageAt holds d.execution.image.now image →
    IsBudgetOf d.execution.budget image budget → TellsBudget d.is_unbounded l image budget note → NotesDrive holds d note
noted_drive holds d l driver image b budget note steered held within is = record {
  lattice = l;
  declared = steered_lattice holds d.class.now d.policy d.is_unbounded l driver image b steered;
  image = image;
  held = held;
  budget = budget;
  within = within;
  is = is;
}

-- A drive that nobody steers fails for that reason, or because something is missing.
pub unsteered_failed : {T : Type 0} (holds : Holding) (d : Driving) (result : Result T Failure) (failure : Failure) →
    IsErrAnd result (λ s. s ≡ failure) →
    FailsBy
    (λ reason. RefusesSteering holds d.policy reason ⊎ RefusesImage holds d.execution.image.now reason)
    (LacksSteering holds d) failure →
    IfErr result (FailsBy (WhyDrive holds d) (LacksDrive holds d))
unsteered_failed holds d result failure is told =
    handed (FailsBy (WhyDrive holds d) (LacksDrive holds d)) failure result is
    (FailsBy-weaker
    (λ reason. RefusesSteering holds d.policy reason ⊎ RefusesImage holds d.execution.image.now reason)
    (WhyDrive holds d) (LacksSteering holds d) (LacksDrive holds d)
    (λ reason refused. elim refused [
      | inl steering ↦ inl steering
      | inr image ↦ inr (inl image)
    ])
    (λ s lacks. inl (inl lacks)) failure told)

-- If the budget isn't enough for the image of a file, a request that passes the failure on says so.
pub falls_short : {T : Type 0} (holds : Holding) (is_unbounded : Bool) (Kind : Lattice → Type 0) (path : List ℕ)
    (given : Budget) (why : Unanswered → Type 0) (other : Failure → Type 0) (l : Lattice) (image : Image) (budget : ℕ)
    (result : Result T Failure) (failure : Failure) → Kind l → IsImageAt holds path image →
    IsBudgetOf given image budget →
    ((s : Failure) → FallsShort holds is_unbounded Kind path given s → other s) → IsErrAnd result (λ s. s ≡ failure) →
    FailsBy (λ reason. ⊥) (λ s. (is_unbounded ≡ false) × SaysShort l image budget s) failure →
    IfErr result (FailsBy why other)
falls_short holds is_unbounded Kind path given why other l image budget result failure declared held within f is told =
    handed (FailsBy why other) failure result is
    (FailsBy-weaker (λ reason. ⊥) why (λ s. (is_unbounded ≡ false) × SaysShort l image budget s) other
    (λ reason none. absurd none)
    (λ s short. f s (record {
      bounded = short.0;
      lattice = l;
      declared = declared;
      image = image;
      held = held;
      budget = budget;
      within = within;
      is = short.1;
    }))
    failure told)

-- So does a drive.
pub short_failed : {T : Type 0} (holds : Holding) (d : Driving) (why : Unanswered → Type 0) (l : Lattice)
    (driver : ℕ) (image : Image) (b : Boundary) (budget : ℕ) (result : Result T Failure) (failure : Failure) →
    IsSteered holds d l driver image b → IsImageAt holds d.execution.image.now image →
    IsBudgetOf d.execution.budget image budget → IsErrAnd result (λ s. s ≡ failure) →
    FailsBy (λ reason. ⊥) (λ s. (d.is_unbounded ≡ false) × SaysShort l image budget s) failure →
    IfErr result (FailsBy why (LacksDrive holds d))
short_failed holds d why l driver image b budget result failure steered held within is told =
    falls_short holds d.is_unbounded (IsLatticeOf holds d.policy) d.execution.image.now d.execution.budget why
    (LacksDrive holds d) l image budget result failure
    (steered_lattice holds d.class.now d.policy d.is_unbounded l driver image b steered) held within
    (λ s short. inr short) is told
