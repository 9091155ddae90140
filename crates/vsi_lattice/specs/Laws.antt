-- The laws of a lattice, as a proposition.
use Rattle.std.specs.Prelude.{◌≡◌, ℕ, zero, suc, ◌<◌, nat_lt, Bool, true, false, ◌⊎◌, IsTrue}
use Rattle.std.proofs.Common.{refl, sym, subst, inl, inr, add-one, below_none, below_more, lt-suc_self, lt_trans, true≢false, ltb-true, lt-ltb}
use Rattle.vsi_lattice.specs.Order.{Lattice, IsLattice, IsClass, Below, IsJoin, HasJoin, HasMeet}
use Rattle.vsi_lattice.specs.Pairs.{Says}

-- The laws, stating that joins and meets are not missing.
pub record IsLawful (L : Lattice) : Type 0 where
  pub reflexive : (a : ℕ) → IsClass L a → Below L a a
  pub antisymmetric : (a b : ℕ) → IsClass L a → IsClass L b → Below L a b → Below L b a → a ≡ b
  pub transitive : (a b c : ℕ) → IsClass L a → IsClass L b → IsClass L c → Below L a b → Below L b c → Below L a c
  pub joins : (a b : ℕ) → IsClass L a → IsClass L b → ¬ (HasJoin L.count (Below L) a b → ⊥)
  pub meets : (a b : ℕ) → IsClass L a → IsClass L b → ¬ (HasMeet L.count (Below L) a b → ⊥)
  pub bottom_within : IsClass L L.bottom
  pub bottom_least : (a : ℕ) → IsClass L a → Below L L.bottom a
  pub top_within : IsClass L L.top
  pub top_greatest : (a : ℕ) → IsClass L a → Below L a L.top

-- Either a fact or its negation.
abbrev Decided : Type 0 → Type 0
Decided P = P ⊎ (P → ⊥)

-- The truth of a test is decided.
test_decided : (b : Bool) → Decided (IsTrue b)
test_decided true = inl refl
test_decided false = inr (λ e. true≢false (sym e))

-- An implication of decided facts is decided.
implied_decided : {P Q : Type 0} → Decided P → Decided Q → Decided (P → Q)
implied_decided (inl p) (inl q) = inl (λ _. q)
implied_decided (inl p) (inr n) = inr (λ f. n (f p))
implied_decided (inr n) d = inl (λ p. absurd (n p))

-- A conjunction of decided facts is decided.
both_decided : {P Q : Type 0} → Decided P → Decided Q → Decided (P × Q)
both_decided (inl p) (inl q) = inl (p, q)
both_decided (inl p) (inr n) = inr (λ r. n r.1)
both_decided (inr n) d = inr (λ r. n r.0)

-- A fact about the numbers below n, extended to n.
all_more : (P : ℕ → Type 0) (n : ℕ) → Decided (P n) → Decided ((k : ℕ) → k < n → P k) →
    Decided ((k : ℕ) → k < suc n → P k)
all_more P n (inl p) (inl all) = inl (subst (λ m. (k : ℕ) → k < m → P k) (add-one n) (below_more P n all p))
all_more P n (inl p) (inr q) = inr (λ h. q (λ k lt. h k (lt_trans lt (lt-suc_self n))))
all_more P n (inr q) d = inr (λ h. q (h n (lt-suc_self n)))

-- A fact that is decided for every number is decided for all numbers below n.
all_decided : (P : ℕ → Type 0) → ((k : ℕ) → Decided (P k)) → (n : ℕ) → Decided ((k : ℕ) → k < n → P k)
all_decided P f zero = inl (below_none P)
all_decided P f (suc n) = all_more P n (f n) (all_decided P f n)

-- A number below n, or n itself.
found_more : (P : ℕ → Type 0) (n : ℕ) → Decided (P n) → ((c : ℕ) × P c) ⊎ ((c : ℕ) → c < n → P c → ⊥)
    → ((c : ℕ) × P c) ⊎ ((c : ℕ) → c < suc n → P c → ⊥)
found_more P n d (inl found) = inl found
found_more P n (inl p) (inr none) = inl (n, p)
found_more P n (inr q) (inr none) =
    inr (subst (λ m. (c : ℕ) → c < m → P c → ⊥) (add-one n) (below_more (λ c. P c → ⊥) n none q))

-- A number for which a decided fact holds, or none below n.
find : (P : ℕ → Type 0) → ((c : ℕ) → Decided (P c)) → (n : ℕ) → ((c : ℕ) × P c) ⊎ ((c : ℕ) → c < n → P c → ⊥)
find P f zero = inr (below_none (λ c. P c → ⊥))
find P f (suc n) = found_more P n (f n) (find P f n)

-- A meet is a join of the reversed order.
pub meet_of_join : {count : ℕ} {R : ℕ → ℕ → Type 0} {a b : ℕ} → HasJoin count (λ x y. R y x) a b → HasMeet count R a b
meet_of_join h = (h.0, record { within = h.1.within; left = h.1.left; right = h.1.right; greatest = h.1.least })

-- A join is a meet of the reversed order.
pub join_of_meet : {count : ℕ} {R : ℕ → ℕ → Type 0} {a b : ℕ} → HasMeet count R a b → HasJoin count (λ x y. R y x) a b
join_of_meet h = (h.0, record { within = h.1.within; left = h.1.left; right = h.1.right; least = h.1.greatest })

module _ (n : ℕ) (leq : ℕ → ℕ → Bool) (a b : ℕ) where
  -- The conditions for the class c to be a join.
  abbrev Parts : ℕ → Type 0
  Parts c = IsTrue (nat_lt c n) × (IsTrue (leq a c) × (IsTrue (leq b c) ×
      ((d : ℕ) → d < n → IsTrue (leq a d) → IsTrue (leq b d) → IsTrue (leq c d))))

  -- The conditions are decided.
  parts_decided : (c : ℕ) → Decided (Parts c)
  parts_decided c =
      both_decided (test_decided (nat_lt c n)) (both_decided (test_decided (leq a c))
      (both_decided (test_decided (leq b c))
      (all_decided (λ d. IsTrue (leq a d) → IsTrue (leq b d) → IsTrue (leq c d))
      (λ d. implied_decided (test_decided (leq a d)) (implied_decided (test_decided (leq b d))
      (test_decided (leq c d)))) n)))

  -- A join satisfies the conditions.
  parts_of : (c : ℕ) → IsJoin n (Says leq) a b c → Parts c
  parts_of c j = (lt-ltb c n j.within, (j.left, (j.right, j.least)))

  -- A class that satisfies the conditions is a join.
  of_parts : (c : ℕ) → Parts c → IsJoin n (Says leq) a b c
  of_parts c p = record { within = ltb-true c n p.0; left = p.1.0; right = p.1.1.0; least = p.1.1.1 }

  -- A join that is not missing exists.
  pub join_found : ¬ (HasJoin n (Says leq) a b → ⊥) → HasJoin n (Says leq) a b
  join_found h = elim (find Parts parts_decided n) [
    | inl f ↦ (f.0, of_parts f.0 f.1)
    | inr none ↦ absurd (h (λ j. none j.0 j.1.within (parts_of j.0 j.1)))
  ]

-- A lawful order is a lattice.
pub lawful_is_lattice : (L : Lattice) → IsLawful L → IsLattice L
lawful_is_lattice L w = record {
  reflexive = w.reflexive;
  antisymmetric = w.antisymmetric;
  transitive = w.transitive;
  joins = λ a b ha hb. join_found L.count L.leq a b (w.joins a b ha hb);
  meets = λ a b ha hb. meet_of_join (join_found L.count (λ x y. L.leq y x) a b
      (λ n. w.meets a b ha hb (λ m. n (join_of_meet m))));
  bottom_within = w.bottom_within;
  bottom_least = w.bottom_least;
  top_within = w.top_within;
  top_greatest = w.top_greatest;
}
