-- A run by either rule computes what the rules of evaluation give.
use Rattle.std.proofs.Common.{ℕ, ◌+◌, [], ◌∷◌, ◌++◌, refl}
use Rattle.vsi_lattice.specs.Order.{Lattice}
use Rattle.vsi_scope.specs.Language.{Command, Sequence, If, While, letvars}
use Rattle.vsi_scope.specs.Meaning.{Store, value, Evaluates}
use Rattle.vsi_scope.proofs.Evaluation.{rules_hold}
use Rattle.vsi_types.specs.Typing.{Locations}
use Rattle.vsi_steps.specs.declared.labels.Rule.{Rule}
use Rattle.vsi_steps.specs.Monitor.{Outcome, Halted, Stopped, Monitored, NOTHING, ASSIGN, UPGRADE, MARK, COMPOSE, COMPOSE_STOP, IF_TRUE, IF_FALSE, IF_MARK, WHILE_TRUE, WHILE_STOP, WHILE_FALSE, WHILE_MARK, LETVAR, LETVAR_STOP}
use Rattle.vsi_steps.specs.MonitorLaws.{ComputesTheSame}

-- The store and its labels have the property, if the run halts.
abbrev pub IfHalted : Outcome → (Store → Locations → Type 0) → Type 0
IfHalted (Halted m q) P = P m q
IfHalted (Stopped x) P = Unit {0}

-- A property of the outcome implies a weaker one.
pub if_halted_more : (r : Outcome) (P Q : Store → Locations → Type 0) →
    ((m : Store) (q : Locations) → P m q → Q m q) → IfHalted r P → IfHalted r Q
if_halted_more (Halted m q) P Q w h = w m q h
if_halted_more (Stopped x) P Q w h = tt

module _ (R : Rule) (L : Lattice) (classes : ℕ → ℕ) where
  -- A run that halts evaluates its command to its store.
  pub computes : (f : Locations) (pc n : ℕ) (c : Command) (m : Store) (q : Locations) (r : Outcome) →
      Monitored R L classes f pc n c m q r → IfHalted r (λ m' q'. Evaluates c m m')
  computes f pc n c m q r NOTHING = (rules_hold.nothing m m).1 refl
  computes f pc n c m q r (ASSIGN {l = l} {s = s} {e = e} up has is) = (rules_hold.assignment l s e m _).1 refl
  computes f pc n c m q r (UPGRADE by not) = tt
  computes f pc n c m q r (MARK {l = l} {s = s} {e = e} by not) = (rules_hold.assignment l s e m _).1 refl
  computes f pc n c m q r (COMPOSE {q₁ = q₁} {a = a} {b = b} {m₁ = m₁} d d') =
      if_halted_more r (λ m' q'. Evaluates b m₁ m') (λ m' q'. Evaluates (Sequence a b) m m')
      (λ m' q' h. (rules_hold.composition a b m m').1 (m₁, computes f pc n a m q (Halted m₁ q₁) d, h))
      (computes f pc (n + letvars a) b m₁ q₁ r d')
  computes f pc n c m q r (COMPOSE_STOP d) = tt
  computes f pc n c m q r (IF_TRUE {u = u} {e = e} {a = a} {b = b} z clean has is d) =
      if_halted_more r (λ m' q'. Evaluates a m m') (λ m' q'. Evaluates (If e a b) m m')
      (λ m' q' h. (rules_hold.choice_true e a b m m' z).1 h) (computes f u n a m q r d)
  computes f pc n c m q r (IF_FALSE {u = u} {e = e} {a = a} {b = b} z clean has is d) =
      if_halted_more r (λ m' q'. Evaluates b m m') (λ m' q'. Evaluates (If e a b) m m')
      (λ m' q' h. (rules_hold.choice_false e a b m m' z).1 h) (computes f u (n + letvars a) b m q r d)
  computes f pc n c m q r (IF_MARK reads) = tt
  computes f pc n c m q r (WHILE_TRUE {q₁ = q₁} {u = u} {e = e} {c = c'} {m₁ = m₁} z clean has is d d') =
      if_halted_more r (λ m' q'. Evaluates (While e c') m₁ m') (λ m' q'. Evaluates (While e c') m m')
      (λ m' q' h. (rules_hold.loop_true e c' m m' z).1 (m₁, computes f u n c' m q (Halted m₁ q₁) d, h))
      (computes f u n (While e c') m₁ q₁ r d')
  computes f pc n c m q r (WHILE_STOP z clean has is d) = tt
  computes f pc n c m q r (WHILE_FALSE {e = e} {c = c'} z clean) = (rules_hold.loop_false e c' m m z).1 refl
  computes f pc n c m q r (WHILE_MARK reads) = tt
  computes f pc n c m q r (LETVAR {q₁ = q₁} {v = v} {e = e} {c = c'} {m₁ = m₁} has is d) =
      (rules_hold.allocation e c' m _).1
      (m₁, computes (f ++ classes n ∷ []) pc (n + 1) c' (m ++ value e m ∷ []) (q ++ v ∷ []) (Halted m₁ q₁) d, refl)
  computes f pc n c m q r (LETVAR_STOP has is d) = tt

-- The law that a run by either rule computes the store of the rules of evaluation.
pub computes_the_same : ComputesTheSame
computes_the_same R L classes f q q' pc n c m m' d = computes R L classes f pc n c m q (Halted m' q') d
