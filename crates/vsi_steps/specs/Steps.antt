-- The steps of an evaluation.
use Rattle.std.specs.Prelude.{◌≡◌, ◌≢◌, ℕ, ◌+◌, List, [], ◌∷◌, ◌++◌, length, take, slice_set, pos}
use Rattle.vsi_syntax.specs.declared.token.Span.{Span}
use Rattle.vsi_scope.specs.Language.{Expression, Command, Skip, Assign, Sequence, If, While, Letvar}
use Rattle.vsi_scope.specs.Meaning.{Store, value}
use Rattle.vsi_steps.specs.declared.run.Step.{Step}
use Rattle.vsi_steps.specs.Sites.{sites}

-- The step of a site: the value of its guard, or the word that it stores.
abbrev pub step : ℕ → Expression → Store → Step
step n e m = record { site = n; value = value e m }

-- These are the steps of a command, with n sites before it, that takes the store m to the store m'.
pub data Spells : ℕ → Command → Store → List Step → Store → Type 0 where
  -- Nothing has no step.
  NOTHING : {n : ℕ} {m : Store} → Spells n Skip m [] m
  -- An assignment is one step.
  ASSIGN : {n l : ℕ} {s : Span} {e : Expression} {m : Store} →
      Spells n (Assign l s e) m (step n e m ∷ []) (slice_set m l (value e m))
  -- The steps of the first command, then those of the second.
  COMPOSE : {n : ℕ} {a b : Command} {m m₁ m' : Store} {es fs : List Step} → Spells n a m es m₁ →
      Spells (n + sites a) b m₁ fs m' → Spells n (Sequence a b) m (es ++ fs) m'
  -- The guard, then the steps of the branch that runs.
  IF_TRUE : {n : ℕ} {e : Expression} {a b : Command} {m m' : Store} {es : List Step} → value e m ≢ pos 0 →
      Spells (n + 1) a m es m' → Spells n (If e a b) m (step n e m ∷ es) m'
  IF_FALSE : {n : ℕ} {e : Expression} {a b : Command} {m m' : Store} {es : List Step} → value e m ≡ pos 0 →
      Spells (n + 1 + sites a) b m es m' → Spells n (If e a b) m (step n e m ∷ es) m'
  -- The guard, then the steps of a turn, then those of the loop after it.
  WHILE_TRUE : {n : ℕ} {e : Expression} {c : Command} {m m₁ m' : Store} {es fs : List Step} → value e m ≢ pos 0 →
      Spells (n + 1) c m es m₁ → Spells n (While e c) m₁ fs m' → Spells n (While e c) m (step n e m ∷ (es ++ fs)) m'
  -- The guard with which a loop ends.
  WHILE_FALSE : {n : ℕ} {e : Expression} {c : Command} {m : Store} → value e m ≡ pos 0 →
      Spells n (While e c) m (step n e m ∷ []) m
  -- The initial value, then the steps of the body with one more word.
  LETVAR : {n : ℕ} {e : Expression} {c : Command} {m m₁ : Store} {es : List Step} →
      Spells (n + 1) c (m ++ value e m ∷ []) es m₁ → Spells n (Letvar e c) m (step n e m ∷ es) (take (length m) m₁)

-- The command begins with a step of its own.
abbrev pub IsStep : Command → Type 0
IsStep Skip = ⊥
IsStep (Assign l s e) = Unit {0}
IsStep (Sequence a b) = ⊥
IsStep (If e a b) = Unit {0}
IsStep (While e c) = Unit {0}
IsStep (Letvar e c) = Unit {0}

-- A command, with n sites before it and from the store m, begins with these steps, and takes at least one more.
pub data Begins : ℕ → Command → Store → List Step → Type 0 where
  BEFORE : {n : ℕ} {c : Command} {m : Store} → IsStep c → Begins n c m []
  IN_FIRST : {n : ℕ} {a b : Command} {m : Store} {es : List Step} → Begins n a m es → Begins n (Sequence a b) m es
  IN_SECOND : {n : ℕ} {a b : Command} {m m₁ : Store} {es fs : List Step} → Spells n a m es m₁ →
      Begins (n + sites a) b m₁ fs → Begins n (Sequence a b) m (es ++ fs)
  IN_TRUE : {n : ℕ} {e : Expression} {a b : Command} {m : Store} {es : List Step} → value e m ≢ pos 0 →
      Begins (n + 1) a m es → Begins n (If e a b) m (step n e m ∷ es)
  IN_FALSE : {n : ℕ} {e : Expression} {a b : Command} {m : Store} {es : List Step} → value e m ≡ pos 0 →
      Begins (n + 1 + sites a) b m es → Begins n (If e a b) m (step n e m ∷ es)
  IN_TURN : {n : ℕ} {e : Expression} {c : Command} {m : Store} {es : List Step} → value e m ≢ pos 0 →
      Begins (n + 1) c m es → Begins n (While e c) m (step n e m ∷ es)
  IN_TURNS : {n : ℕ} {e : Expression} {c : Command} {m m₁ : Store} {es fs : List Step} → value e m ≢ pos 0 →
      Spells (n + 1) c m es m₁ → Begins n (While e c) m₁ fs → Begins n (While e c) m (step n e m ∷ (es ++ fs))
  IN_LETVAR : {n : ℕ} {e : Expression} {c : Command} {m : Store} {es : List Step} →
      Begins (n + 1) c (m ++ value e m ∷ []) es → Begins n (Letvar e c) m (step n e m ∷ es)
