-- The contents of files after a text has been put into one.
use Rattle.std.proofs.Common.{◌≡◌, ℕ, Result, Ok, Err, refl, subst}
use Rattle.std.specs.Prelude.{◌≢◌, ◌<◌, IfErr, IfOk, OnOk}
use Rattle.vsi_subject.specs.declared.failure.Failure.{Failure}
use Rattle.vsi_subject.specs.Failures.{status_of}
use Rattle.vsi_subject.specs.Holding.{Holding}

-- A deed that fills no file leaves the files as they were.
pub alone : {T : Type 0} (A : Type 0) (result : Result T Failure) (holds : Holding) → OnOk result A →
    OnOk result ((holds ≡ holds) × A)
alone A (Ok x) holds does = (refl, does)
alone A (Err failure) holds does = tt

-- Two properties of one result hold together.
pub both_done : {T : Type 0} (A B : Type 0) (result : Result T Failure) → OnOk result A → OnOk result B → OnOk result
    (A × B)
both_done A B (Ok x) a b = (a, b)
both_done A B (Err failure) a b = tt

-- A property of the files after an answer that fails early holds if the status says that it has.
pub unfilled_at : {T : Type 0} (A : Type 0) (answer : Result T Failure) (status : ℕ) →
    IfErr answer (λ failure. status_of failure < 4 → A) → IfOk answer (λ x. status ≡ 0) →
    IfErr answer (λ failure. status ≡ status_of failure) → status ≢ 0 → status < 4 → A
unfilled_at A (Ok x) status so done failed some early = absurd (some done)
unfilled_at A (Err failure) status so done failed some early = so (subst (λ n. n < 4) failed early)
