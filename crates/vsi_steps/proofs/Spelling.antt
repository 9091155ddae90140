-- Steps and evaluation agree.
use Rattle.std.proofs.Common.{◌≡◌, ℕ, zero, suc, ◌+◌, List, [], ◌∷◌, ◌++◌, length, Some, None, refl, sym, ◌∙◌, subst}
use Rattle.vsi_scope.specs.Language.{Expression, Command, Skip, Assign, Sequence, If, While, Letvar}
use Rattle.vsi_scope.specs.Meaning.{Store, value, and_then, turns, runs}
use Rattle.vsi_scope.proofs.Evaluation.{rules_hold, same_answer, no_answer, between, zero_cases, at_other, at_none, dropped}
use Rattle.vsi_steps.specs.declared.run.Step.{Step}
use Rattle.vsi_steps.specs.Sites.{sites}
use Rattle.vsi_steps.specs.Steps.{step, Spells, NOTHING, ASSIGN, COMPOSE, IF_TRUE, IF_FALSE, WHILE_TRUE, WHILE_FALSE, LETVAR}
use Rattle.vsi_steps.specs.Laws.{SpellsEvaluates, EvaluationSpelled}

-- A command with these steps evaluates one store to the other.
pub spells_evaluates : SpellsEvaluates
spells_evaluates n c m m' es NOTHING = (rules_hold.nothing m m).1 refl
spells_evaluates n c m m' es (ASSIGN {l = l} {s = s} {e = e}) = (rules_hold.assignment l s e m _).1 refl
spells_evaluates n c m m' es (COMPOSE {a = a} {b = b} {m₁ = m₁} {es = xs} {fs = ys} d d') =
    (rules_hold.composition a b m m').1
    (m₁, spells_evaluates n a m m₁ xs d, spells_evaluates (n + sites a) b m₁ m' ys d')
spells_evaluates n c m m' es (IF_TRUE {e = e} {a = a} {b = b} {es = xs} z d) =
    (rules_hold.choice_true e a b m m' z).1 (spells_evaluates (n + 1) a m m' xs d)
spells_evaluates n c m m' es (IF_FALSE {e = e} {a = a} {b = b} {es = xs} z d) =
    (rules_hold.choice_false e a b m m' z).1 (spells_evaluates (n + 1 + sites a) b m m' xs d)
spells_evaluates n c m m' es (WHILE_TRUE {e = e} {c = c'} {m₁ = m₁} {es = xs} {fs = ys} z d d') =
    (rules_hold.loop_true e c' m m' z).1
    (m₁, spells_evaluates (n + 1) c' m m₁ xs d, spells_evaluates n (While e c') m₁ m' ys d')
spells_evaluates n c m m' es (WHILE_FALSE {e = e} {c = c'} z) = (rules_hold.loop_false e c' m m z).1 refl
spells_evaluates n c m m' es (LETVAR {e = e} {c = c'} {m₁ = m₁} {es = xs} d) =
    (rules_hold.allocation e c' m _).1 (m₁, spells_evaluates (n + 1) c' (m ++ value e m ∷ []) m₁ xs d, refl)

-- A loop of a number of turns has steps if each turn has.
turns_spelled : (j k n : ℕ) (e : Expression) (c : Command) →
    ((m m' : Store) → runs k c m ≡ Some m' → (es : List Step) × Spells (n + 1) c m es m') → (m m' : Store) →
    turns j (value e) (runs k c) m ≡ Some m' → (es : List Step) × Spells n (While e c) m es m'
turns_spelled zero k n e c body m m' h =
    zero_cases (value e m)
    (λ z. (
      step n e m ∷ [],
      subst (Spells n (While e c) m (step n e m ∷ []))
          (same_answer m m' (sym (at_none (value e m) (Some m) None z) ∙ h)) (WHILE_FALSE z),
    ))
    (λ z. no_answer m' (sym (at_other (value e m) (Some m) None z) ∙ h))
turns_spelled (suc j) k n e c body m m' h =
    let rest = and_then (runs k c m) (turns j (value e) (runs k c)) in
    zero_cases (value e m)
    (λ z. (
      step n e m ∷ [],
      subst (Spells n (While e c) m (step n e m ∷ []))
          (same_answer m m' (sym (at_none (value e m) (Some m) rest z) ∙ h)) (WHILE_FALSE z),
    ))
    (λ z.
    let b = between (runs k c m) (turns j (value e) (runs k c)) m'
    (sym (at_other (value e m) (Some m) rest z) ∙ h) in
    let first = body m b.store b.first in
    let more = turns_spelled j k n e c body b.store m' b.second in
    (step n e m ∷ (first.0 ++ more.0), WHILE_TRUE z first.1 more.1))

-- A command that ends within a number of turns has steps.
spelled : (c : Command) (k n : ℕ) (m m' : Store) → runs k c m ≡ Some m' → (es : List Step) × Spells n c m es m'
spelled Skip k n m m' h = ([], subst (Spells n Skip m []) (same_answer m m' h) NOTHING)
spelled (Assign l s e) k n m m' h =
    (step n e m ∷ [], subst (Spells n (Assign l s e) m (step n e m ∷ [])) (same_answer _ m' h) ASSIGN)
spelled (Sequence a b) k n m m' h =
    let t = between (runs k a m) (runs k b) m' h in
    let first = spelled a k n m t.store t.first in
    let more = spelled b k (n + sites a) t.store m' t.second in
    (first.0 ++ more.0, COMPOSE first.1 more.1)
spelled (If e a b) k n m m' h =
    zero_cases (value e m)
    (λ z. let r = spelled b k (n + 1 + sites a) m m' (sym (at_none (value e m) (runs k b m) (runs k a m) z) ∙ h) in
    (step n e m ∷ r.0, IF_FALSE z r.1))
    (λ z. let r = spelled a k (n + 1) m m' (sym (at_other (value e m) (runs k b m) (runs k a m) z) ∙ h) in
    (step n e m ∷ r.0, IF_TRUE z r.1))
spelled (While e c) k n m m' h =
    turns_spelled k k n e c (λ m₁ m₂ f. spelled c k (n + 1) m₁ m₂ f) m m' h
spelled (Letvar e c) k n m m' h =
    let t = dropped (length m) (runs k c (m ++ value e m ∷ [])) m' h in
    let r = spelled c k (n + 1) (m ++ value e m ∷ []) t.store t.before in
    (step n e m ∷ r.0, subst (Spells n (Letvar e c) m (step n e m ∷ r.0)) (sym t.after) (LETVAR r.1))

-- The law that every evaluation has steps.
pub evaluation_spelled : EvaluationSpelled
evaluation_spelled n c m m' h = spelled c h.0 n m m' h.1
