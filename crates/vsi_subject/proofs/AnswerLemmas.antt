-- The result that an answer becomes.
use Rattle.std.proofs.Common.{◌≡◌, ℕ, Result, Ok, Err, sym, subst}
use Rattle.std.specs.Prelude.{IfOk, MatchResult}
use Rattle.std.specs.Global.{Vec}
use Rattle.vsi_answers.specs.declared.unanswered.Unanswered.{Unanswered}
use Rattle.vsi_subject.specs.declared.failure.Failure.{Failure}
use Rattle.vsi_subject.specs.Failures.{failure_of}

-- A property of an answer holds for the text that it becomes.
pub answered_told : (P : Result (Vec ℕ) Unanswered → Type 0) (answer : Result (Vec ℕ) Unanswered)
    (result : Result (Vec ℕ) Failure) →
    MatchResult answer (λ text. result ≡ Ok text) (λ reason. result ≡ Err (failure_of reason)) → P answer →
    IfOk result (λ text. P (Ok text))
answered_told P (Ok text) result is told = subst (λ r. IfOk r (λ t. P (Ok t))) (sym is) told
answered_told P (Err reason) result is told = subst (λ r. IfOk r (λ t. P (Ok t))) (sym is) tt
