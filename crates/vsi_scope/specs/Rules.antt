-- The rules of evaluation, each with its converse.
use Rattle.std.specs.Prelude.{◌≡◌, ◌≢◌, ◌↔◌, ℕ, ◌≤◌, [], ◌∷◌, ◌++◌, length, take, Some, slice_set, slice_index_or, ℤ, pos}
use Rattle.vsi_syntax.specs.declared.tree.Op.{Op}
use Rattle.vsi_syntax.specs.declared.token.Span.{Span}
use Rattle.vsi_syntax.specs.Operators.{apply}
use Rattle.vsi_scope.specs.Language.{Expression, Number, Location, Operator, Command, Skip, Assign, Sequence, If, While, Letvar}
use Rattle.vsi_scope.specs.Meaning.{Store, value, runs, Evaluates}

-- Every evaluation follows the rule of its form, and only that.
pub record EvaluationRules : Type 0 where
  pub literal : (n : ℤ) (m : Store) → value (Number n) m ≡ n
  pub contents : (l : ℕ) (s : Span) (m : Store) → value (Location l s) m ≡ slice_index_or m l (pos 0)
  pub operator : (o : Op) (a b : Expression) (m : Store) → value (Operator o a b) m ≡ apply o (value a m) (value b m)
  pub nothing : (m m' : Store) → Evaluates Skip m m' ↔ (m' ≡ m)
  pub assignment : (l : ℕ) (s : Span) (e : Expression) (m m' : Store) →
      Evaluates (Assign l s e) m m' ↔ (m' ≡ slice_set m l (value e m))
  pub composition : (a b : Command) (m m' : Store) →
      Evaluates (Sequence a b) m m' ↔ ((m₁ : Store) × Evaluates a m m₁ × Evaluates b m₁ m')
  pub choice_true : (e : Expression) (a b : Command) (m m' : Store) → value e m ≢ pos 0 →
      Evaluates (If e a b) m m' ↔ Evaluates a m m'
  pub choice_false : (e : Expression) (a b : Command) (m m' : Store) → value e m ≡ pos 0 →
      Evaluates (If e a b) m m' ↔ Evaluates b m m'
  pub loop_true : (e : Expression) (c : Command) (m m' : Store) → value e m ≢ pos 0 →
      Evaluates (While e c) m m' ↔ ((m₁ : Store) × Evaluates c m m₁ × Evaluates (While e c) m₁ m')
  pub loop_false : (e : Expression) (c : Command) (m m' : Store) → value e m ≡ pos 0 →
      Evaluates (While e c) m m' ↔ (m' ≡ m)
  pub allocation : (e : Expression) (c : Command) (m m' : Store) →
      Evaluates (Letvar e c) m m' ↔
      ((m₁ : Store) × Evaluates c (m ++ value e m ∷ []) m₁ × (m' ≡ take (length m) m₁))

-- Allowing more turns does not change an answer.
abbrev pub LargerKeeps : Type 0
LargerKeeps = (c : Command) (n k : ℕ) (m m' : Store) → n ≤ k → runs n c m ≡ Some m' → runs k c m ≡ Some m'

-- A command evaluates a store to at most one store.
abbrev pub OneAnswer : Type 0
OneAnswer = (c : Command) (m m₁ m₂ : Store) → Evaluates c m m₁ → Evaluates c m m₂ → m₁ ≡ m₂

-- Evaluation keeps the number of words in a store.
abbrev pub LengthKept : Type 0
LengthKept = (c : Command) (n : ℕ) (m m' : Store) → runs n c m ≡ Some m' → length m' ≡ length m
