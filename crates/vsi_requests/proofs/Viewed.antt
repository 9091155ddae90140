-- Why a view within a boundary has no answer.
use Rattle.std.proofs.Common.{◌≡◌, ◌⊎◌, ℕ, ℤ, List, None, false, inl, inr, subst}
use Rattle.std.specs.Prelude.{Result, IfErr, IsErrAnd}
use Rattle.vsi_lattice.specs.NamePlaces.{texts}
use Rattle.vsi_lattice.specs.declared.lattice.Lattice.{Lattice}
use Rattle.vsi_image.specs.declared.instr.Image.{Image}
use Rattle.vsi_drive.specs.Boundary.{Boundary}
use Rattle.vsi_drive.specs.Control.{controlled}
use Rattle.vsi_drive.specs.Views.{view_of}
use Rattle.vsi_answers.specs.Answers.{Because}
use Rattle.vsi_answers.specs.Judged.{TellsStartFault}
use Rattle.vsi_answers.specs.declared.unanswered.Unanswered.{Unanswered}
use Rattle.vsi_answers.specs.declared.unanswered.Unanswered.TheVariants as unanswered
use Rattle.vsi_arguments.specs.declared.request.InitialStore.{InitialStore}
use Rattle.vsi_arguments.specs.declared.request.Viewing.{Viewing}
use Rattle.vsi_subject.specs.declared.failure.Failure.{Failure}
use Rattle.vsi_subject.specs.Feeding.{IsUnfed, RefusesSettings}
use Rattle.vsi_subject.specs.Files.{BeginsAt, IsBudgetOf}
use Rattle.vsi_subject.specs.Holding.{Holding, IsImageAt}
use Rattle.vsi_subject.specs.Reasons.{WhyViewWithin}
use Rattle.vsi_subject.specs.Refusals.{NoOther, RefusesImage, FailsBy}
use Rattle.vsi_subject.specs.Steering.{IsLatticeOf, IsViewed}
use Rattle.vsi_subject.specs.Undriven.{LacksPolicy, LacksView, RefusesControl, RefusesSteering, SaysShort}
use Rattle.vsi_subject.proofs.Reasons.{FailsBy-weaker, failed_by, fails_by, handed}
use Rattle.vsi_requests.proofs.Undriven.{falls_short, steered_lattice}

-- The view has no answer for such a reason of its controller, its run or its settings.
abbrev pub RefusesRun : Boundary → Lattice → ℕ → Image → ℕ → List ℤ → InitialStore → Unanswered → Type 0
RefusesRun b l viewer image budget words o reason =
    RefusesControl b l viewer image budget reason
    ⊎ ((reason ≡ unanswered.OutOfBudget)
    × (view_of (controlled l viewer image budget b) budget words ≡ None))
    ⊎ RefusesSettings l viewer image b o reason

-- A failure of that kind is one of the view.
pub run_failed : {T : Type 0} (holds : Holding) (asked : Viewing) (l : Lattice) (viewer : ℕ) (image : Image)
    (b : Boundary) (words : List ℤ) (budget : ℕ) (result : Result T Failure) (failure : Failure) →
    IsViewed holds asked l viewer image b → BeginsAt holds asked.execution asked.initial_store image words →
    IsBudgetOf asked.execution.budget image budget → IsErrAnd result (λ s. s ≡ failure) →
    FailsBy (RefusesRun b l viewer image budget words asked.initial_store) NoOther failure →
    IfErr result (FailsBy (WhyViewWithin holds asked) (LacksView holds asked))
run_failed holds asked l viewer image b words budget result failure viewed begins within is told =
    failed_by (RefusesRun b l viewer image budget words asked.initial_store) (WhyViewWithin holds asked) (LacksView holds asked)
    (λ reason refused. inr (inr (inr (record {
      lattice = l;
      viewer = viewer;
      image = image;
      boundary = b;
      viewed = viewed;
      words = words;
      begins = begins;
      budget = budget;
      within = within;
      is = refused;
    }))))
    result failure is told

-- A view that the policy gives to no class fails for that reason, or because something is missing.
pub unviewed_failed : {T : Type 0} (holds : Holding) (asked : Viewing) (result : Result T Failure)
    (failure : Failure) → IsErrAnd result (λ s. s ≡ failure) →
    FailsBy
    (λ reason. RefusesSteering holds asked.policy reason ⊎ RefusesImage holds asked.execution.image.now reason)
    (LacksPolicy holds asked.class.now asked.execution.image.now asked.policy asked.is_unbounded) failure →
    IfErr result (FailsBy (WhyViewWithin holds asked) (LacksView holds asked))
unviewed_failed holds asked result failure is told =
    handed (FailsBy (WhyViewWithin holds asked) (LacksView holds asked)) failure result is
    (FailsBy-weaker
    (λ reason. RefusesSteering holds asked.policy reason ⊎ RefusesImage holds asked.execution.image.now reason)
    (WhyViewWithin holds asked)
    (LacksPolicy holds asked.class.now asked.execution.image.now asked.policy asked.is_unbounded) (LacksView holds asked)
    (λ reason refused. elim refused [
      | inl steering ↦ inl steering
      | inr image ↦ inr (inl image)
    ])
    (λ s lacks. inl (inl lacks)) failure told)

-- A controller that is refused is refused to the view.
pub control_failed : {T : Type 0} (holds : Holding) (asked : Viewing) (l : Lattice) (viewer : ℕ) (image : Image)
    (b : Boundary) (words : List ℤ) (budget : ℕ) (result : Result T Failure) (failure : Failure) →
    IsViewed holds asked l viewer image b → BeginsAt holds asked.execution asked.initial_store image words →
    IsBudgetOf asked.execution.budget image budget → IsErrAnd result (λ s. s ≡ failure) →
    FailsBy (RefusesControl b l viewer image budget) NoOther failure →
    IfErr result (FailsBy (WhyViewWithin holds asked) (LacksView holds asked))
control_failed holds asked l viewer image b words budget result failure viewed begins within is told =
    run_failed holds asked l viewer image b words budget result failure viewed begins within is
    (fails_by (RefusesControl b l viewer image budget) (RefusesRun b l viewer image budget words asked.initial_store) NoOther
    (λ reason refused. inl refused) failure told)

-- If the budget isn't enough, the view says so.
pub view_short : {T : Type 0} (holds : Holding) (v : Viewing) (l : Lattice) (viewer : ℕ) (image : Image) (b : Boundary)
    (budget : ℕ) (result : Result T Failure) (failure : Failure) → IsViewed holds v l viewer image b →
    IsImageAt holds v.execution.image.now image → IsBudgetOf v.execution.budget image budget →
    IsErrAnd result (λ s. s ≡ failure) →
    FailsBy (λ reason. ⊥) (λ s. (v.is_unbounded ≡ false) × SaysShort l image budget s) failure →
    IfErr result (FailsBy (WhyViewWithin holds v) (LacksView holds v))
view_short holds v l viewer image b budget result failure viewed held within is told =
    falls_short holds v.is_unbounded (IsLatticeOf holds v.policy) v.execution.image.now v.execution.budget
    (WhyViewWithin holds v) (LacksView holds v) l image budget result failure
    (steered_lattice holds v.class.now v.policy v.is_unbounded l viewer image b viewed) held within
    (λ s short. inr short) is told

-- Settings that set what is no input are refused to the view.
pub unfed_failed : {T : Type 0} (holds : Holding) (asked : Viewing) (l : Lattice) (viewer : ℕ) (image : Image)
    (b own : Boundary) (words : List ℤ) (budget : ℕ) (settings : List (List ℕ)) (result : Result T Failure)
    (failure : Failure) → IsViewed holds asked l viewer image b →
    BeginsAt holds asked.execution asked.initial_store image words → IsBudgetOf asked.execution.budget image budget →
    own ≡ b → settings ≡ texts asked.initial_store.settings.items → IsErrAnd result (λ s. s ≡ failure) →
    FailsBy (Because (TellsStartFault (IsUnfed (controlled l viewer image 0 own) settings)) ⊥) NoOther failure →
    IfErr result (FailsBy (WhyViewWithin holds asked) (LacksView holds asked))
unfed_failed holds asked l viewer image b own words budget settings result failure viewed begins within same at is told =
    run_failed holds asked l viewer image b words budget result failure viewed begins within is
    (fails_by (RefusesSettings l viewer image b asked.initial_store)
    (RefusesRun b l viewer image budget words asked.initial_store) NoOther
    (λ reason unfed. inr (inr unfed)) failure
    (subst
    (λ c. FailsBy (Because (TellsStartFault (IsUnfed (controlled l viewer image 0 c) (texts asked.initial_store.settings.items))) ⊥)
    NoOther failure)
    same
    (subst (λ ss. FailsBy (Because (TellsStartFault (IsUnfed (controlled l viewer image 0 own) ss)) ⊥) NoOther failure) at
    told)))
