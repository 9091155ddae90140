-- Why words that aren't carried out to the end have failed.
use Rattle.std.proofs.Common.{◌≡◌, ◌<◌, ◌⊎◌, ℕ, List, [], ◌∷◌, Option, Result, Ok, Err, inl, inr, sym, subst, arith}
use Rattle.std.specs.Prelude.{IfErr, String}
use Rattle.std.specs.declared.alloc.Global.{Global}
use Rattle.vsi_arguments.specs.declared.request.Request.{Request}
use Rattle.vsi_subject.specs.declared.failure.Failure.{Failure}
use Rattle.vsi_subject.specs.declared.failure.Failure.TheVariants.{Memory}
use Rattle.vsi_subject.specs.Done.{IsFailureOf, Failed, FailsAt}
use Rattle.vsi_subject.specs.Holding.{Holding}
use Rattle.vsi_subject.specs.Partly.{Answers}
use Rattle.vsi_subject.specs.Reasons.{Why, WhyWork}
use Rattle.vsi_subject.specs.Works.{Drives, Lays, Lists, Replies, Runs, Talks, Work, work_of}
use Rattle.vsi_subject.specs.Failures.{status_of}
use Rattle.vsi_subject.proofs.Leaving.{leaves_memory}

-- A property of every failure holds for the failure that an answer is.
pub each_failure : {T : Type 0} (So : Failure → Type 0) (result : Result T Failure) → ((failure : Failure) → So failure) →
    IfErr result So
each_failure So (Ok x) so = tt
each_failure So (Err failure) so = so failure

-- Lack of memory claims no reason for a request, however it is carried out.
memory_work : (work : Work) (holds : Holding) (asked : Request) (old new : Option (List ℕ)) →
    WhyWork work holds asked old new Memory
memory_work (Lists c has_walks) holds asked old new = tt
memory_work (Runs e o has_trace has_count) holds asked old new = tt
memory_work (Drives driving) holds asked old new = tt
memory_work (Lays layout) holds asked old new = tt
memory_work Talks holds asked old new = tt
memory_work Replies holds asked old new = inr (inr (omega arith))

-- Nor for the request.
pub memory_why : (holds : Holding) (asked : Request) (old new : Option (List ℕ)) → Why holds asked old new Memory
memory_why holds asked old new = memory_work (work_of asked) holds asked old new

-- A request has failed so too where the explanation has found no memory.
pub explained_fails : (holds : Holding) (given : Option (List ℕ)) (asked : Request) (old new : Option (List ℕ))
    (failure told : Failure) → IsFailureOf holds given asked old new failure → (told ≡ failure) ⊎ (told ≡ Memory) →
    IsFailureOf holds given asked old new told
explained_fails holds given asked old new failure told so (inl same) =
    subst (IsFailureOf holds given asked old new) (sym same) so
explained_fails holds given asked old new failure told so (inr wants) =
    subst (IsFailureOf holds given asked old new) (sym wants)
    (record {
      why = memory_why holds asked old new;
      leaves = leaves_memory (Answers holds given asked) asked old new so.leaves.partly;
    })

-- A fact that holds if a failure is early holds if the reported failure is early.
pub early_told : {A : Type 0} (failure told : Failure) → (told ≡ failure) ⊎ (told ≡ Memory) → (status_of failure < 4 → A) →
    status_of told < 4 → A
early_told failure told (inl same) so early = so (subst (λ s. status_of s < 4) same early)
early_told failure told (inr wants) so early =
    let late : status_of Memory < 4 = subst (λ s. status_of s < 4) wants early in absurd (omega arith)

-- Words have failed so where there are words.
pub fails_at : (holds : Holding) (given : Option (List ℕ)) (words : List (String Global)) (old new : Option (List ℕ))
    (failure : Failure) → Failed holds given words old new failure → FailsAt holds given words old new failure
fails_at holds given [] old new failure so = tt
fails_at holds given (word ∷ words) old new failure so = so

-- Two properties of a failure hold together.
pub both_failed : {T : Type 0} (A B : Failure → Type 0) (result : Result T Failure) → IfErr result A → IfErr result B →
    IfErr result (λ failure. A failure × B failure)
both_failed A B (Ok x) a b = tt
both_failed A B (Err failure) a b = (a, b)
