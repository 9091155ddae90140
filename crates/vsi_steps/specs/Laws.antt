-- The promises about steps.
use Rattle.std.specs.Prelude.{◌≡◌, ◌≢◌, ℕ, List, [], ◌++◌}
use Rattle.vsi_scope.specs.Language.{Command}
use Rattle.vsi_scope.specs.Meaning.{Store, Evaluates}
use Rattle.vsi_steps.specs.declared.run.Step.{Step}
use Rattle.vsi_steps.specs.Steps.{Spells, Begins}

-- A command whose steps take one store to another evaluates it to that store.
abbrev pub SpellsEvaluates : Type 0
SpellsEvaluates = (n : ℕ) (c : Command) (m m' : Store) (es : List Step) → Spells n c m es m' → Evaluates c m m'

-- Every evaluation has steps.
abbrev pub EvaluationSpelled : Type 0
EvaluationSpelled =
    (n : ℕ) (c : Command) (m m' : Store) → Evaluates c m m' → (es : List Step) × Spells n c m es m'

-- An evaluation has only one list of steps.
abbrev pub OneSpelling : Type 0
OneSpelling = (n : ℕ) (c : Command) (m m₁ m₂ : Store) (es fs : List Step) → Spells n c m es m₁ → Spells n c m fs m₂ →
    es ≡ fs

-- The steps with which a command begins are the first of its steps, and not all of them.
abbrev pub BeginningIsPrefix : Type 0
BeginningIsPrefix =
    (n : ℕ) (c : Command) (m m' : Store) (es fs : List Step) → Begins n c m fs → Spells n c m es m' →
    (rest : List Step) × (es ≡ fs ++ rest) × (rest ≢ [])
