-- The laws of evaluation.
use Rattle.std.proofs.Common.{◌≡◌, ◌≢◌, ℕ, zero, suc, ◌+◌, ◌≤◌, [], ◌∷◌, ◌++◌, length, take, Option, Some, None, ℤ, pos, negsuc, refl, sym, ap, ◌∙◌, subst, arith, length-append, length-set}
use Rattle.std.proofs.lemmas.List.{length-take-le}
use Rattle.vsi_scope.specs.Language.{Expression, Command, Skip, Assign, Sequence, If, While, Letvar}
use Rattle.vsi_scope.specs.Meaning.{Store, value, at_zero, and_then, drop_past, turns, runs, Evaluates}
use Rattle.vsi_scope.specs.Rules.{EvaluationRules, LargerKeeps, OneAnswer, LengthKept}

-- Two answers that are equal as options are equal.
pub same_answer : (a b : Store) → Some a ≡ Some b → a ≡ b
same_answer a b e = ap (λ o. elim o as (λ _. Store) [ None ↦ a | Some x ↦ x ]) e

-- A missing answer is not a store.
pub no_answer : {A : Type 0} (a : Store) → None ≡ Some a → A
no_answer {A} a e = absurd (subst (λ o. elim o as (λ _. Type 0) [ None ↦ Unit {0} | Some x ↦ ⊥ ]) e tt)

-- The store between two steps.
pub record Between (o : Option Store) (go : Store → Option Store) (m' : Store) : Type 0 where
  pub store : Store
  pub first : o ≡ Some store
  pub second : go store ≡ Some m'

-- If two steps end, there is a store between them.
pub between : (o : Option Store) (go : Store → Option Store) (m' : Store) → and_then o go ≡ Some m' → Between o go m'
between None go m' e = no_answer m' e
between (Some m) go m' e = record { store = m; first = refl; second = e }

-- Two steps with a store between them are one step.
pub through : (o : Option Store) (go : Store → Option Store) (m m' : Store) → o ≡ Some m → go m ≡ Some m' →
    and_then o go ≡ Some m'
through o go m m' e f = ap (λ x. and_then x go) e ∙ f

-- A word is 0 or it isn't.
pub zero_cases : {P : Type 0} (z : ℤ) → (z ≡ pos 0 → P) → (z ≢ pos 0 → P) → P
zero_cases (pos zero) f g = f refl
zero_cases (pos (suc n)) f g =
    g (λ e. absurd (subst (λ z. elim z as (λ _. Type 0) [
      | pos k ↦ elim k as (λ _. Type 0) [
        | zero ↦ ⊥
        | suc j ↦ Unit
            {0}
      ]
      | negsuc k ↦ Unit {0}
    ]) e tt))
zero_cases (negsuc n) f g =
    g (λ e. absurd (subst (λ z. elim z as (λ _. Type 0) [ pos k ↦ ⊥ | negsuc k ↦ Unit {0} ]) e tt))

-- A word that isn't 0 selects the second.
pub at_other : (z : ℤ) (a b : Option Store) → z ≢ pos 0 → at_zero z a b ≡ b
at_other (pos zero) a b h = absurd (h refl)
at_other (pos (suc n)) a b h = refl
at_other (negsuc n) a b h = refl

-- The word 0 selects the first.
pub at_none : (z : ℤ) (a b : Option Store) → z ≡ pos 0 → at_zero z a b ≡ a
at_none z a b h = ap (λ x. at_zero x a b) h

-- One function answers whenever the other does, and with the same store.
abbrev pub Extends : (Store → Option Store) → (Store → Option Store) → Type 0
Extends f g = (m m' : Store) → f m ≡ Some m' → g m ≡ Some m'

-- A choice keeps an answer if both branches do.
at_zero_more : (z : ℤ) (a b a' b' : Option Store) (m' : Store) → (a ≡ Some m' → a' ≡ Some m') →
    (b ≡ Some m' → b' ≡ Some m') → at_zero z a b ≡ Some m' → at_zero z a' b' ≡ Some m'
at_zero_more (pos zero) a b a' b' m' f g e = f e
at_zero_more (pos (suc n)) a b a' b' m' f g e = g e
at_zero_more (negsuc n) a b a' b' m' f g e = g e

-- Two steps keep an answer if each does.
and_then_more : (o o' : Option Store) (f g : Store → Option Store) (m' : Store) →
    ((m : Store) → o ≡ Some m → o' ≡ Some m) → Extends f g → and_then o f ≡ Some m' → and_then o' g ≡ Some m'
and_then_more o o' f g m' h k e =
    let b = between o f m' e in through o' g b.store m' (h b.store b.first) (k b.store m' b.second)

-- A loop with more turns, and a body that answers whenever the other does, keeps an answer.
pub turns_more : (i j : ℕ) (guard : Store → ℤ) (f g : Store → Option Store) → i ≤ j → Extends f g →
    Extends (turns i guard f) (turns j guard g)
turns_more zero zero guard f g le h m m' e = e
turns_more zero (suc j) guard f g le h m m' e =
    at_zero_more (guard m) (Some m) _ (Some m) _ m' (λ x. x) (no_answer m') e
turns_more (suc i) zero guard f g le h m m' e = absurd (omega arith)
turns_more (suc i) (suc j) guard f g le h m m' e =
    at_zero_more (guard m) (Some m) _ (Some m) _ m' (λ x. x) (and_then_more (f m) (g m) _ _ m' (h m)
    (turns_more i j guard f g (omega arith) h)) e

-- Truncating the store keeps an answer.
drop_past_more : (k : ℕ) (o o' : Option Store) (m' : Store) → ((m : Store) → o ≡ Some m → o' ≡ Some m) →
    drop_past k o ≡ Some m' → drop_past k o' ≡ Some m'
drop_past_more k None o' m' h e = no_answer m' e
drop_past_more k (Some m) o' m' h e = ap (drop_past k) (h m refl) ∙ e

-- Allowing more turns does not change an answer.
pub larger_keeps : (c : Command) (n k : ℕ) (m m' : Store) → n ≤ k → runs n c m ≡ Some m' → runs k c m ≡ Some m'
larger_keeps Skip n k m m' le e = e
larger_keeps (Assign l s x) n k m m' le e = e
larger_keeps (Sequence a b) n k m m' le e =
    and_then_more (runs n a m) (runs k a m) (runs n b) (runs k b) m' (λ m₁ f. larger_keeps a n k m m₁ le f)
    (λ m₁ m₂ f. larger_keeps b n k m₁ m₂ le f) e
larger_keeps (If x a b) n k m m' le e =
    at_zero_more (value x m) (runs n b m) (runs n a m) (runs k b m) (runs k a m) m' (larger_keeps b n k m m' le)
    (larger_keeps a n k m m' le) e
larger_keeps (While x c) n k m m' le e =
    turns_more n k (value x) (runs n c) (runs k c) le (λ m₁ m₂ f. larger_keeps c n k m₁ m₂ le f) m m' e
larger_keeps (Letvar x c) n k m m' le e =
    drop_past_more (length m) _ _ m' (λ m₁ f. larger_keeps c n k (m ++ value x m ∷ []) m₁ le f) e

-- The law that allowing more turns does not change an answer.
pub larger : LargerKeeps
larger = larger_keeps

-- The store before it was truncated.
pub record Dropped (k : ℕ) (o : Option Store) (m' : Store) : Type 0 where
  pub store : Store
  pub before : o ≡ Some store
  pub after : m' ≡ take k store

-- A truncated store consists of the first words of the store before it.
pub dropped : (k : ℕ) (o : Option Store) (m' : Store) → drop_past k o ≡ Some m' → Dropped k o m'
dropped k None m' e = no_answer m' e
dropped k (Some m) m' e = record { store = m; before = refl; after = sym (same_answer _ _ e) }

-- A loop keeps the number of words if its body does.
turns_length : (i : ℕ) (guard : Store → ℤ) (f : Store → Option Store) →
    ((m m' : Store) → f m ≡ Some m' → length m' ≡ length m) → (m m' : Store) → turns i guard f m ≡ Some m' →
    length m' ≡ length m
turns_length zero guard f h m m' e =
    zero_cases (guard m)
    (λ z. ap length (sym (same_answer _ _ (sym (at_none (guard m) (Some m) None z) ∙ e))))
    (λ z. no_answer m' (sym (at_other (guard m) (Some m) None z) ∙ e))
turns_length (suc i) guard f h m m' e =
    zero_cases (guard m)
    (λ z. ap length (sym (same_answer _ _ (sym (at_none (guard m) (Some m) (and_then (f m) (turns i guard f)) z)
    ∙ e))))
    (λ z. let b = between (f m) (turns i guard f) m'
    (sym (at_other (guard m) (Some m) (and_then (f m) (turns i guard f)) z) ∙ e) in
    turns_length i guard f h b.store m' b.second ∙ h m b.store b.first)

-- A command keeps the number of words.
pub length_kept : (c : Command) (n : ℕ) (m m' : Store) → runs n c m ≡ Some m' → length m' ≡ length m
length_kept Skip n m m' e = ap length (sym (same_answer _ _ e))
length_kept (Assign l s x) n m m' e = ap length (sym (same_answer _ _ e)) ∙ length-set m l (value x m)
length_kept (Sequence a b) n m m' e =
    let t = between (runs n a m) (runs n b) m' e in
    length_kept b n t.store m' t.second ∙ length_kept a n m t.store t.first
length_kept (If x a b) n m m' e =
    zero_cases (value x m)
    (λ z. length_kept b n m m' (sym (at_none (value x m) (runs n b m) (runs n a m) z) ∙ e))
    (λ z. length_kept a n m m' (sym (at_other (value x m) (runs n b m) (runs n a m) z) ∙ e))
length_kept (While x c) n m m' e = turns_length n (value x) (runs n c) (λ m₁ m₂ f. length_kept c n m₁ m₂ f) m m' e
length_kept (Letvar x c) n m m' e =
    let d = dropped (length m) (runs n c (m ++ value x m ∷ [])) m' e in
    let l = length_kept c n (m ++ value x m ∷ []) d.store d.before in
    let l' = length-append m (value x m ∷ []) in
    ap length d.after ∙ length-take-le (length m) d.store (omega (arith, l, l'))

-- The law that evaluation keeps the number of words in a store.
pub lengths : LengthKept
lengths = length_kept

-- The rules.
module _ (e : Expression) (c : Command) where
  -- A loop whose guard is true continues with its body and then itself.
  loop_on : (m m' : Store) → value e m ≢ pos 0 → (m₁ : Store) → Evaluates c m m₁ → Evaluates (While e c) m₁ m' →
      Evaluates (While e c) m m'
  loop_on m m' z m₁ r s =
      let k = r.0 + s.0 in
      let body = larger_keeps c r.0 (suc k) m m₁ (omega arith) r.1 in
      let rest = turns_more s.0 k (value e) (runs s.0 c) (runs (suc k) c) (omega arith) (λ m₂ m₃ f. larger_keeps c s.0
      (suc k) m₂ m₃ (omega arith) f) m₁ m' s.1 in (
        suc k,
        at_other (value e m) (Some m) (and_then (runs (suc k) c m) (turns k (value e) (runs (suc k) c))) z
            ∙ through (runs (suc k) c m) (turns k (value e) (runs (suc k) c)) m₁ m' body rest,
      )

  -- A loop whose guard is true ran its body and then itself.
  loop_back : (m m' : Store) → value e m ≢ pos 0 → (n : ℕ) → runs n (While e c) m ≡ Some m' →
      (m₁ : Store) × Evaluates c m m₁ × Evaluates (While e c) m₁ m'
  loop_back m m' z zero f = no_answer m' (sym (at_other (value e m) (Some m) None z) ∙ f)
  loop_back m m' z (suc n) f =
      let b = between (runs (suc n) c m) (turns n (value e) (runs (suc n) c)) m'
      (sym (at_other (value e m) (Some m) (and_then (runs (suc n) c m) (turns n (value e) (runs (suc n) c))) z)
      ∙ f) in (
        b.store,
        (suc n, b.first),
        (
          suc n,
          turns_more n (suc n) (value e) (runs (suc n) c) (runs (suc n) c)
              (omega arith) (λ m₂ m₃ g. g) b.store m' b.second,
        ),
      )

  -- A loop whose guard is false leaves the store unchanged.
  loop_stops : (m m' : Store) → value e m ≡ pos 0 → (n : ℕ) → runs n (While e c) m ≡ Some m' → m' ≡ m
  loop_stops m m' z zero f = sym (same_answer _ _ (sym (at_none (value e m) (Some m) None z) ∙ f))
  loop_stops m m' z (suc n) f =
      sym (same_answer _ _ (sym (at_none (value e m) (Some m) (and_then (runs (suc n) c m)
      (turns n (value e) (runs (suc n) c))) z) ∙ f))

-- Two commands that end one after another end in sequence.
composed : (a b : Command) (m m' m₁ : Store) → Evaluates a m m₁ → Evaluates b m₁ m' → Evaluates (Sequence a b) m m'
composed a b m m' m₁ r s =
    let k = r.0 + s.0 in (
      k,
      through (runs k a m) (runs k b) m₁ m' (larger_keeps a r.0 k m m₁ (omega arith) r.1)
          (larger_keeps b s.0 k m₁ m' (omega arith) s.1),
    )

-- The rules of evaluation hold, each with its converse.
pub rules_hold : EvaluationRules
rules_hold = record {
  literal = λ n m. refl;
  contents = λ l s m. refl;
  operator = λ o a b m. refl;
  nothing = λ m m'. (λ h. sym (same_answer _ _ h.1), λ e. (0, ap Some (sym e)));
  assignment = λ l s e m m'. (λ h. sym (same_answer _ _ h.1), λ x. (0, ap Some (sym x)));
  composition = λ a b m m'. (
    λ h. let t = between (runs h.0 a m) (runs h.0 b) m' h.1 in (t.store, (h.0, t.first), (h.0, t.second)),
    λ h. composed a b m m' h.0 h.1 h.2,
  );
  choice_true = λ e a b m m' z. (
    λ h. (h.0, sym (at_other (value e m) (runs h.0 b m) (runs h.0 a m) z) ∙ h.1),
    λ h. (h.0, at_other (value e m) (runs h.0 b m) (runs h.0 a m) z ∙ h.1),
  );
  choice_false = λ e a b m m' z. (
    λ h. (h.0, sym (at_none (value e m) (runs h.0 b m) (runs h.0 a m) z) ∙ h.1),
    λ h. (h.0, at_none (value e m) (runs h.0 b m) (runs h.0 a m) z ∙ h.1),
  );
  loop_true = λ e c m m' z. (λ h. loop_back e c m m' z h.0 h.1, λ h. loop_on e c m m' z h.0 h.1 h.2);
  loop_false =
      λ e c m m' z. (
        λ h. loop_stops e c m m' z h.0 h.1,
        λ x. (
          1,
          at_none (value e m) (Some m)
              (and_then (runs 1 c m) (turns 0 (value e) (runs 1 c))) z ∙ ap Some (sym x),
        ),
      );
  allocation = λ e c m m'. (
    λ h. let d = dropped (length m) (runs h.0 c (m ++ value e m ∷ [])) m' h.1 in (d.store, (h.0, d.before), d.after),
    λ h. (h.1.0, ap (drop_past (length m)) h.1.1 ∙ ap Some (sym h.2)),
  );
}

-- A command has at most one answer.
pub one_answer : OneAnswer
one_answer c m m₁ m₂ r s =
    let k = r.0 + s.0 in
    same_answer _ _ (sym (larger_keeps c r.0 k m m₁ (omega arith) r.1) ∙ larger_keeps c s.0 k m m₂ (omega arith) s.1)
