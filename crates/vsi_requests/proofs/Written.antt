-- The output of an answer, and the files that it leaves as they were.
use Rattle.std.proofs.Common.{◌≡◌, ℕ, List, Result, Ok, Err, subst}
use Rattle.std.specs.Prelude.{Bool, true, false, IfOk, MatchResult}
use Rattle.std.specs.Global.{Vec}
use Rattle.std.proofs.lemmas.Result.{IfOk-weaker}
use Rattle.vsi_lattice.specs.declared.lattice.Lattice.{Lattice}
use Rattle.vsi_types.specs.declared.rules.Profile.{Profile}
use Rattle.vsi_answers.specs.declared.unanswered.Unanswered.{Unanswered}
use Rattle.vsi_arguments.specs.declared.request.Compilation.{Compilation}
use Rattle.vsi_subject.specs.declared.failure.Failure.{Failure}
use Rattle.vsi_subject.specs.Holding.{Holding}
use Rattle.vsi_subject.specs.Files.{AreFiles, OfFiles}
use Rattle.vsi_subject.specs.Performed.{ToldAccepted, profile_of}
use Rattle.vsi_subject.specs.Raises.{ToldMended}
use Rattle.vsi_subject.specs.Refusals.{AsksCheck, AsksMend}
use Rattle.vsi_subject.specs.Failures.{failure_of}
use Rattle.vsi_subject.proofs.AnswerLemmas.{answered_told}

-- An answer about a lattice and a source text is an answer about the files that hold them.
pub told_files : (holds : Holding) (c : Compilation)
    (Ask : Lattice → List ℕ → Result (Vec ℕ) Unanswered → Type 0) (Told : Lattice → List ℕ → Vec ℕ → Type 0)
    (l : Lattice) (text source : List ℕ) (answer : Result (Vec ℕ) Unanswered) (result : Result (Vec ℕ) Failure) →
    ((m : Lattice) (s : List ℕ) (t : Vec ℕ) → Ask m s (Ok t) → Told m s t) → AreFiles holds c l text →
    source ≡ text → MatchResult answer (λ t. result ≡ Ok t) (λ reason. result ≡ Err (failure_of reason)) →
    Ask l source answer → IfOk result (OfFiles holds c Told)
told_files holds c Ask Told l text source answer result f files same is told =
    IfOk-weaker result (λ t. Ask l text (Ok t)) (OfFiles holds c Told)
    (λ t so. record { lattice = l; source = text; files = files; is = f l text t so })
    (answered_told (Ask l text) answer result is (subst (λ s. Ask l s answer) same told))

-- The same, under the profile of a compilation.
pub told_by : (holds : Holding) (c : Compilation)
    (Ask : Lattice → Profile → List ℕ → Result (Vec ℕ) Unanswered → Type 0) (l : Lattice) (text source : List ℕ)
    (P : Profile) (answer : Result (Vec ℕ) Unanswered) (result : Result (Vec ℕ) Failure) → AreFiles holds c l text →
    source ≡ text → P ≡ profile_of c.is_strict →
    MatchResult answer (λ t. result ≡ Ok t) (λ reason. result ≡ Err (failure_of reason)) → Ask l P source answer →
    IfOk result (OfFiles holds c (λ m s t. Ask m (profile_of c.is_strict) s (Ok t)))
told_by holds c Ask l text source P answer result files same by is told =
    told_files holds c (λ m s a. Ask m (profile_of c.is_strict) s a) (λ m s t. Ask m (profile_of c.is_strict) s (Ok t))
    l text source answer result (λ m s t so. so) files same is
    (subst (λ Q. Ask l Q source answer) by told)

-- The answer to the request of `check` is the text that it writes.
pub told_accepted : (is_steady is_strict : Bool) (l : Lattice) (source : List ℕ) (text : Vec ℕ) →
    AsksCheck is_steady is_strict l source (Ok text) → ToldAccepted is_steady is_strict l source text
told_accepted true is_strict l source text told = told
told_accepted false is_strict l source text told = told

-- The answer to the request of `mend` is the text that it writes.
pub told_raises : (is_applied is_strict : Bool) (l : Lattice) (source : List ℕ) (text : Vec ℕ) →
    AsksMend is_applied is_strict l source (Ok text) → ToldMended is_applied (profile_of is_strict) l source text
told_raises true is_strict l source text told = told
told_raises false is_strict l source text told = told
