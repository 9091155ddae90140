-- The claims of a failure, and those of one that is passed on.
use Rattle.std.proofs.Common.{◌≡◌, ◌<◌, Result, Ok, Err, sym, subst, arith}
use Rattle.std.specs.Prelude.{Some, None, IfErr, IsErrAnd, MatchResult}
use Rattle.vsi_answers.specs.declared.unanswered.Unanswered.{Unanswered}
use Rattle.vsi_answers.specs.declared.unanswered.Unanswered.TheVariants as unanswered
use Rattle.vsi_subject.specs.declared.failure.Failure.{Failure}
use Rattle.vsi_subject.specs.declared.failure.Failure.TheVariants.{Refused, Interface, Audit, Unsteady, Differs, Usage, NoClass, OutOfBudget, FileFault, LostFile, Memory}
use Rattle.vsi_subject.specs.Refusals.{NoOther, FailsBy}
use Rattle.vsi_subject.specs.Failures.{status_of, failure_of}

-- A fault of a file, and lack of memory, claim no reason.
pub late_fails : (why : Unanswered → Type 0) (other : Failure → Type 0) (failure : Failure) → 3 < status_of failure →
    FailsBy why other failure
late_fails why other (Refused text (Some cause)) late = absurd (omega arith)
late_fails why other (Refused text None) late = absurd (omega arith)
late_fails why other (Interface text error) late = absurd (omega arith)
late_fails why other (Audit text error) late = absurd (omega arith)
late_fails why other (Unsteady text error) late = absurd (omega arith)
late_fails why other Differs late = absurd (omega arith)
late_fails why other (Usage text) late = tt
late_fails why other (NoClass name) late = absurd (omega arith)
late_fails why other OutOfBudget late = absurd (omega arith)
late_fails why other (FileFault path) late = tt
late_fails why other (LostFile path) late = tt
late_fails why other Memory late = tt

-- A failure has weaker claims if its reason and the other failures have them.
pub FailsBy-weaker : (why so : Unanswered → Type 0) (other more : Failure → Type 0) →
    ((reason : Unanswered) → why reason → so reason) → ((failure : Failure) → other failure → more failure) → (failure : Failure) →
    FailsBy why other failure → FailsBy so more failure
FailsBy-weaker why so other more f g (Refused text (Some cause)) is = f (unanswered.Refused text cause) is
FailsBy-weaker why so other more f g (Refused text None) is = g (Refused text None) is
FailsBy-weaker why so other more f g (Interface text error) is = g (Interface text error) is
FailsBy-weaker why so other more f g (Audit text error) is = g (Audit text error) is
FailsBy-weaker why so other more f g (Unsteady text error) is = g (Unsteady text error) is
FailsBy-weaker why so other more f g Differs is = g Differs is
FailsBy-weaker why so other more f g (Usage text) is = tt
FailsBy-weaker why so other more f g (NoClass name) is = g (NoClass name) is
FailsBy-weaker why so other more f g OutOfBudget is = f unanswered.OutOfBudget is
FailsBy-weaker why so other more f g (FileFault path) is = tt
FailsBy-weaker why so other more f g (LostFile path) is = tt
FailsBy-weaker why so other more f g Memory is = tt

-- The same, where no other failure is.
pub fails_by : (why so : Unanswered → Type 0) (other : Failure → Type 0) →
    ((reason : Unanswered) → why reason → so reason) → (failure : Failure) → FailsBy why NoOther failure →
    FailsBy so other failure
fails_by why so other f = FailsBy-weaker why so NoOther other f (λ failure none. absurd none)

-- The failure for a reason claims that reason.
pub reason_fails : (why : Unanswered → Type 0) (other : Failure → Type 0) (reason : Unanswered) → why reason →
    FailsBy why other (failure_of reason)
reason_fails why other (unanswered.Refused text cause) is = is
reason_fails why other unanswered.OutOfBudget is = is
reason_fails why other unanswered.Memory is = tt

-- A property of an answer holds for the reason of the failure that it becomes.
pub answered_fails : {T : Type 0} (Ask : Result T Unanswered → Type 0) (answer : Result T Unanswered)
    (result : Result T Failure) →
    MatchResult answer (λ text. result ≡ Ok text) (λ reason. result ≡ Err (failure_of reason)) → Ask answer →
    IfErr result (FailsBy (λ reason. Ask (Err reason)) NoOther)
answered_fails Ask (Ok text) result is told =
    subst (λ r. IfErr r (FailsBy (λ reason. Ask (Err reason)) NoOther)) (sym is) tt
answered_fails Ask (Err reason) result is told =
    subst (λ r. IfErr r (FailsBy (λ reason. Ask (Err reason)) NoOther)) (sym is)
    (reason_fails (λ reason. Ask (Err reason)) NoOther reason told)

-- A property of a failure holds if that fail is passed on.
pub handed : {T E : Type 0} (P : E → Type 0) (failure : E) (result : Result T E) →
    IsErrAnd result (λ e. e ≡ failure) → P failure → IfErr result P
handed P failure (Ok x) is told = tt
handed P failure (Err e) is told = subst P (sym is) told

-- Why a step has failed is why the whole has, where the step's failure is passed on.
pub failed_by : {T : Type 0} (why so : Unanswered → Type 0) (other : Failure → Type 0) →
    ((reason : Unanswered) → why reason → so reason) → (result : Result T Failure) (failure : Failure) →
    IsErrAnd result (λ s. s ≡ failure) → FailsBy why NoOther failure → IfErr result (FailsBy so other)
failed_by why so other f result failure is told =
    handed (FailsBy so other) failure result is (fails_by why so other f failure told)

-- A late failure that is passed on claims no reason.
pub late_failed : {T : Type 0} (why : Unanswered → Type 0) (other : Failure → Type 0) (result : Result T Failure)
    (failure : Failure) → IsErrAnd result (λ s. s ≡ failure) → 3 < status_of failure → IfErr result (FailsBy why other)
late_failed why other result failure is late =
    handed (FailsBy why other) failure result is (late_fails why other failure late)

-- A property of the reason for no answer is claimed if the failure for that reason is passed on.
pub handed_reason : {T : Type 0} (why : Unanswered → Type 0) (other : Failure → Type 0) (reason : Unanswered)
    (result : Result T Failure) → IsErrAnd result (λ e. e ≡ failure_of reason) → why reason →
    IfErr result (FailsBy why other)
handed_reason why other reason result is told =
    handed (FailsBy why other) (failure_of reason) result is (reason_fails why other reason told)
