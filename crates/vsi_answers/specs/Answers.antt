-- An answer: what was requested, or why there is no such answer.
use Rattle.std.specs.Prelude.{ℕ, List, Result, MatchResult}
use Rattle.vsi_answers.specs.declared.unanswered.Cause.{Cause}
use Rattle.vsi_answers.specs.declared.unanswered.Unanswered.{Unanswered}
use Rattle.vsi_answers.specs.declared.unanswered.Unanswered.TheVariants.{Refused, OutOfBudget, Memory}

-- The relation of the text of a refusal to its cause.
abbrev pub Telling : Type 1
Telling = List ℕ → Cause → Type 0

-- A refusal has this relation of text and cause, an exhausted budget has that property, and memory may run out at any
-- time.
abbrev pub Because : Telling → Type 0 → Unanswered → Type 0
Because told spent (Refused text cause) = told text.items cause
Because told spent OutOfBudget = spent
Because told spent Memory = Unit {0}

-- The answer has the requested property, or a refusal gives the reason; nothing runs, so no budget is spent.
abbrev pub Judges : {T : Type 0} → (T → Type 0) → Telling → Result T Unanswered → Type 0
Judges wanted told answer = MatchResult answer wanted (Because told ⊥)

-- The answer of a run has the requested property, or the run is out of budget, or a refusal gives the reason.
abbrev pub Runs : {T : Type 0} → (T → Type 0) → Type 0 → Telling → Result T Unanswered → Type 0
Runs wanted spent told answer = MatchResult answer wanted (Because told spent)

-- There is no refusal.
abbrev pub Nothing : Telling
Nothing text cause = ⊥
