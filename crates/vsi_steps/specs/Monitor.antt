-- Monitored evaluation by one of two rules: each word has a label, and the program counter has a class. Where an
-- assignment would raise a label under a sensitive counter, no-sensitive-upgrade stops the run, and permissive upgrade
-- marks the word as partly leaked. Such a word may be copied, but a guard that reads it stops the run.
use Rattle.std.specs.Prelude.{◌≡◌, ◌≢◌, ℕ, ◌+◌, [], ◌∷◌, ◌++◌, length, take, slice_index, slice_set, pos}
use Rattle.vsi_lattice.specs.Order.{Lattice, Below, IsJoin}
use Rattle.vsi_syntax.specs.declared.token.Span.{Span}
use Rattle.vsi_scope.specs.Language.{Expression, Command, Skip, Assign, Sequence, If, While, Letvar, letvars}
use Rattle.vsi_scope.specs.Meaning.{Store, value}
use Rattle.vsi_types.specs.Typing.{Locations}
use Rattle.vsi_steps.specs.declared.labels.Rule.{Rule}
use Rattle.vsi_steps.specs.declared.labels.Rule.TheVariants.{NoSensitiveUpgrade, PermissiveUpgrade}
use Rattle.vsi_steps.specs.declared.watch.Stop.{Stop}
use Rattle.vsi_steps.specs.Labels.{HasLabel, IsStored, IsMark, ReadsNoMark, ReadsMarkAt}

-- The outcome of a run: a store and its labels, or the reason why it was stopped.
pub data Outcome : Type 0 where
  Halted : Store → Locations → Outcome
  Stopped : Stop → Outcome

-- The reason for stopping an assignment.
abbrev pub upgrade : Span → ℕ → ℕ → Stop
upgrade s pc label = record { place = s; counter = pc; label = label }

-- The reason for stopping at a guard that reads a word with the mark.
abbrev pub branch : Lattice → Span → ℕ → Stop
branch L s pc = record { place = s; counter = pc; label = L.top }

-- A word with the label t may be replaced under the counter pc: the counter is at or below t, and the bottom class if t
-- is the mark.
abbrev pub MayReplace : Rule → Lattice → ℕ → ℕ → Type 0
MayReplace R L pc t = Below L pc t × (IsMark R L t → pc ≡ L.bottom)

-- A run of a command, by a rule, under the counter pc, with n declarations before it, from the store m with the
-- labels q of the lattice L. The list f has the class of each location's variable, and `classes` the class of each
-- declaration.
pub data Monitored (R : Rule) (L : Lattice) (classes : ℕ → ℕ) :
    Locations → ℕ → ℕ → Command → Store → Locations → Outcome → Type 0 where
  -- Nothing is done.
  NOTHING : {f q : Locations} {pc n : ℕ} {m : Store} → Monitored R L classes f pc n Skip m q (Halted m q)
  -- The present word of the variable may be replaced: the word is stored with its new label.
  ASSIGN : {f q : Locations} {pc n l t v : ℕ} {s : Span} {e : Expression} {m : Store} →
      MayReplace R L pc (slice_index q l) → HasLabel L q e t → IsStored L t pc (slice_index f l) v →
      Monitored R L classes f pc n (Assign l s e) m q (Halted (slice_set m l (value e m)) (slice_set q l v))
  -- It may not: no-sensitive-upgrade stops the run.
  UPGRADE : {f q : Locations} {pc n l : ℕ} {s : Span} {e : Expression} {m : Store} →
      R ≡ NoSensitiveUpgrade → (MayReplace R L pc (slice_index q l) → ⊥) →
      Monitored R L classes f pc n (Assign l s e) m q (Stopped (upgrade s pc (slice_index q l)))
  -- It may not: permissive upgrade stores the word with the mark.
  MARK : {f q : Locations} {pc n l : ℕ} {s : Span} {e : Expression} {m : Store} →
      R ≡ PermissiveUpgrade → (MayReplace R L pc (slice_index q l) → ⊥) →
      Monitored R L classes f pc n (Assign l s e) m q (Halted (slice_set m l (value e m)) (slice_set q l L.top))
  -- The second command runs from the store of the first, under the same counter.
  COMPOSE : {f q q₁ : Locations} {pc n : ℕ} {a b : Command} {m m₁ : Store} {r : Outcome} →
      Monitored R L classes f pc n a m q (Halted m₁ q₁) → Monitored R L classes f pc (n + letvars a) b m₁ q₁ r →
      Monitored R L classes f pc n (Sequence a b) m q r
  -- The first command is stopped.
  COMPOSE_STOP : {f q : Locations} {pc n : ℕ} {a b : Command} {m : Store} {x : Stop} →
      Monitored R L classes f pc n a m q (Stopped x) → Monitored R L classes f pc n (Sequence a b) m q (Stopped x)
  -- A branch runs under the join of the counter and the label of the guard.
  IF_TRUE : {f q : Locations} {pc n t u : ℕ} {e : Expression} {a b : Command} {m : Store} {r : Outcome} →
      value e m ≢ pos 0 → ReadsNoMark R L q e → HasLabel L q e t → IsJoin L.count (Below L) pc t u →
      Monitored R L classes f u n a m q r → Monitored R L classes f pc n (If e a b) m q r
  IF_FALSE : {f q : Locations} {pc n t u : ℕ} {e : Expression} {a b : Command} {m : Store} {r : Outcome} →
      value e m ≡ pos 0 → ReadsNoMark R L q e → HasLabel L q e t → IsJoin L.count (Below L) pc t u →
      Monitored R L classes f u (n + letvars a) b m q r → Monitored R L classes f pc n (If e a b) m q r
  -- The guard of a choice reads a word with the mark.
  IF_MARK : {f q : Locations} {pc n : ℕ} {e : Expression} {a b : Command} {m : Store} {s : Span} →
      ReadsMarkAt R L q e s → Monitored R L classes f pc n (If e a b) m q (Stopped (branch L s pc))
  -- A turn of a loop, and the turns after it, run under the join of the counter and the label of the guard.
  WHILE_TRUE : {f q q₁ : Locations} {pc n t u : ℕ} {e : Expression} {c : Command} {m m₁ : Store} {r : Outcome} →
      value e m ≢ pos 0 → ReadsNoMark R L q e → HasLabel L q e t → IsJoin L.count (Below L) pc t u →
      Monitored R L classes f u n c m q (Halted m₁ q₁) → Monitored R L classes f u n (While e c) m₁ q₁ r →
      Monitored R L classes f pc n (While e c) m q r
  -- The body of a loop is stopped.
  WHILE_STOP : {f q : Locations} {pc n t u : ℕ} {e : Expression} {c : Command} {m : Store} {x : Stop} →
      value e m ≢ pos 0 → ReadsNoMark R L q e → HasLabel L q e t → IsJoin L.count (Below L) pc t u →
      Monitored R L classes f u n c m q (Stopped x) → Monitored R L classes f pc n (While e c) m q (Stopped x)
  -- A loop ends.
  WHILE_FALSE : {f q : Locations} {pc n : ℕ} {e : Expression} {c : Command} {m : Store} →
      value e m ≡ pos 0 → ReadsNoMark R L q e → Monitored R L classes f pc n (While e c) m q (Halted m q)
  -- The guard of a loop reads a word with the mark.
  WHILE_MARK : {f q : Locations} {pc n : ℕ} {e : Expression} {c : Command} {m : Store} {s : Span} →
      ReadsMarkAt R L q e s → Monitored R L classes f pc n (While e c) m q (Stopped (branch L s pc))
  -- A new location has the join of its value's label and its class as label. As in LETVAR, the counter isn't part of
  -- it.
  LETVAR : {f q q₁ : Locations} {pc n t v : ℕ} {e : Expression} {c : Command} {m m₁ : Store} →
      HasLabel L q e t → IsJoin L.count (Below L) t (classes n) v →
      Monitored R L classes (f ++ classes n ∷ []) pc (n + 1) c (m ++ value e m ∷ []) (q ++ v ∷ []) (Halted m₁ q₁) →
      Monitored R L classes f pc n (Letvar e c) m q (Halted (take (length m) m₁) (take (length q) q₁))
  -- The body of a letvar is stopped.
  LETVAR_STOP : {f q : Locations} {pc n t v : ℕ} {e : Expression} {c : Command} {m : Store} {x : Stop} →
      HasLabel L q e t → IsJoin L.count (Below L) t (classes n) v →
      Monitored R L classes (f ++ classes n ∷ []) pc (n + 1) c (m ++ value e m ∷ []) (q ++ v ∷ []) (Stopped x) →
      Monitored R L classes f pc n (Letvar e c) m q (Stopped x)
