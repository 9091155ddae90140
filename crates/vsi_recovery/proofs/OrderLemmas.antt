-- Lemmas on rows of bits and the order that pairs declare.
use Rattle.std.proofs.Common.{◌≡◌, ℕ, ◌+◌, ◌<◌, ◌==◌, Bool, true, ◌&&◌, ◌||◌, List, ◌++◌, length, sym, ◌∙◌, arith, subst, inl, inr, ◌⊎◌, eqb-true, true≢false, false, refl}
use Rattle.std.proofs.lemmas.Bool.{and_parts}
use Rattle.std.specs.Prelude.{Contains, nat_lt}
use Rattle.vsi_lattice.specs.Order.{Lattice, Below}
use Rattle.vsi_lattice.specs.Pairs.{Leq, stays, climbs, IsDeclared}
use Rattle.vsi_lattice.specs.Rows.{row_has}
use Rattle.vsi_lattice.proofs.ClosureLemmas.{Leq-trans}
use Rattle.vsi_recovery.specs.Completed.{KeepsOrder}

-- Each class is below itself by every list of pairs.
pub own_sound : (count : ℕ) (pairs : List (ℕ × ℕ)) (has : ℕ → ℕ → Bool) →
    ((a b : ℕ) → has a b ≡ (nat_lt a count && (a == b))) → (a b : ℕ) → has a b ≡ true → Leq pairs a b
own_sound count pairs has each a b h =
    subst (λ x. Leq pairs a x) (eqb-true a b (and_parts (nat_lt a count) (a == b) (sym (each a b) ∙ h)).1) (stays a)

-- One of the two is true.
or_cases : (x y z : Bool) → (x || (y && z)) ≡ true → (x ≡ true) ⊎ ((y ≡ true) × (z ≡ true))
or_cases true y z h = inl refl
or_cases false true true h = inr (refl, refl)
or_cases false true false h = absurd (true≢false (sym h))
or_cases false false z h = absurd (true≢false (sym h))

-- One of the pairs more in the rows says nothing that the pairs don't declare.
pub pair_sound : (pairs : List (ℕ × ℕ)) (has has' : ℕ → ℕ → Bool) (low high : ℕ) → Contains pairs (low, high) →
    ((a b : ℕ) → has' a b ≡ (has a b || (has a low && has high b))) → ((a b : ℕ) → has a b ≡ true → Leq pairs a b) →
    (a b : ℕ) → has' a b ≡ true → Leq pairs a b
pair_sound pairs has has' low high is adds sound a b h =
    elim (or_cases (has a b) (has a low) (has high b) (sym (adds a b) ∙ h)) [
      | inl p ↦ sound a b p
      | inr pq ↦
          Leq-trans (sound a low pq.0) (climbs low high b is (sound high b pq.1))
    ]

-- A lattice of more pairs whose first classes are in the order of rows keeps the order that the rows are of.
pub keeps_order : (count more : ℕ) (pairs added : List (ℕ × ℕ)) (L : Lattice) (rows : List ℕ) → length rows ≡ count →
    IsDeclared (count + more) (pairs ++ added) L →
    ((low high : ℕ) → low < length rows → high < length rows → Below L low high → row_has rows low high ≡ true) →
    ((a b : ℕ) → row_has rows a b ≡ true → Leq pairs a b) → KeepsOrder count pairs added
keeps_order count more pairs added L rows len declared kept sound a b ha hb leq =
    sound a b (kept a b (omega arith) (omega arith) (declared.complete a b (omega arith) (omega arith) leq))
