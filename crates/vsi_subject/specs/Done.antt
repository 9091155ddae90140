-- The effect of arguments that are carried out to the end, and the reason if they aren't.
use Rattle.std.specs.Prelude.{◌≡◌, ◌<◌, ℕ, ◌⊎◌, true, false, List, [], ◌∷◌, Option, String}
use Rattle.std.specs.Io.KnownBytes.{Keeps}
use Rattle.std.specs.declared.alloc.Global.{Global}
use Rattle.vsi_arguments.specs.declared.request.Request.{Request}
use Rattle.vsi_arguments.specs.Asked.{AsksFor}
use Rattle.vsi_arguments.specs.Help.{AsksHelp}
use Rattle.vsi_subject.specs.FaultyFiles.{WritesRefusal, answers_json, has_line}
use Rattle.vsi_subject.specs.Holding.{Holding}
use Rattle.vsi_subject.specs.Partly.{Answers, Leaves}
use Rattle.vsi_subject.specs.Performed.{Performs}
use Rattle.vsi_subject.specs.Reasons.{Why}
use Rattle.vsi_subject.specs.Failures.{status_of}
use Rattle.vsi_subject.specs.Works.{cut_from}
use Rattle.vsi_subject.specs.declared.failure.Failure.{Failure}
use Rattle.vsi_subject.specs.declared.failure.Failure.TheVariants.{Usage}

-- The arguments ask for help, for which no file is touched, or for a request that has been performed.
abbrev pub Done : Holding → Option (List ℕ) → List (String Global) → Holding → Option (List ℕ) → Option (List ℕ) →
    Type 0
Done holds given words left old new =
    ((left ≡ holds) × AsksHelp words)
    ⊎ ((request : Request) × AsksFor words request × Performs holds given request left old new)

-- A request has failed for this reason, and it has left this output.
pub record IsFailureOf (holds : Holding) (given : Option (List ℕ)) (request : Request) (old new : Option (List ℕ))
    (failure : Failure) : Type 0 where
  pub why : Why holds request old new failure
  pub leaves : Leaves (Answers holds given request) (cut_from request) old new failure

-- A request with `--json` has failed because a file is refused: nothing was on the output, and it has got the line of
-- that refusal.
pub record IsFaultyFile (holds : Holding) (given : Option (List ℕ)) (request : Request) (old new : Option (List ℕ))
    (failure : Failure) : Type 0 where
  pub first : Failure
  pub has : has_line (answers_json request) first ≡ true
  pub between : Option (List ℕ)
  pub fails : IsFailureOf holds given request old between first
  pub kept : Keeps old between
  pub told : WritesRefusal first between new failure

-- A request has failed: without a line of JSON, or, for a refused file where the request answers with JSON, with it.
abbrev pub EndsEarly : Holding → Option (List ℕ) → Request → Option (List ℕ) → Option (List ℕ) → Failure → Type 0
EndsEarly holds given request old new failure =
    ((has_line (answers_json request) failure ≡ false) × IsFailureOf holds given request old new failure)
    ⊎ IsFaultyFile holds given request old new failure

-- The failure says that the arguments are mistaken.
abbrev pub IsMistake : Failure → Type 0
IsMistake (Usage text) = Unit {0}
IsMistake failure = ⊥

-- No request was read from the arguments: they are mistaken, or memory ran out, and nothing is written, except that
-- help that they request may have been cut short.
abbrev pub Unread : List (String Global) → Option (List ℕ) → Option (List ℕ) → Failure → Type 0
Unread words old new failure =
    (IsMistake failure × Keeps old new) ⊎ ((3 < status_of failure) × (Keeps old new ⊎ AsksHelp words))

-- The arguments ask for a request that has failed, or none was read from them.
abbrev pub Failed : Holding → Option (List ℕ) → List (String Global) → Option (List ℕ) → Option (List ℕ) → Failure →
    Type 0
Failed holds given words old new failure =
    ((request : Request) × AsksFor words request × EndsEarly holds given request old new failure)
    ⊎ Unread words old new failure

-- The same if there are arguments.
abbrev pub FailsAt : Holding → Option (List ℕ) → List (String Global) → Option (List ℕ) → Option (List ℕ) → Failure →
    Type 0
FailsAt holds given [] old new failure = Unit {0}
FailsAt holds given (word ∷ words) old new failure = Failed holds given (word ∷ words) old new failure
