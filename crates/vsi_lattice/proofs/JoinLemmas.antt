-- Joins as intersections of rows.
use Rattle.std.proofs.Common.{◌≡◌, ℕ, ◌+◌, ◌*◌, ◌%◌, ◌^◌, ◌<◌, ◌==◌, Bool, true, false, ◌&&◌, List, length, get_or, refl, sym, ap, ◌∙◌, arith, inl, inr, eqb-true, eq-eqb, min, below_more, w64, not, ◌/◌}
use Rattle.std.specs.Prelude.{bit_and}
use Rattle.std.specs.Int.{bit_at, bit_not, trailing_zeros}
use Rattle.std.proofs.lemmas.Bool.{cases_eq, and_parts, and_from}
use Rattle.std.proofs.lemmas.Bool.Decides.{nat_tests}
use Rattle.std.proofs.lemmas.Nat.Bits.{bit_at_and, bit_at-lt, bit_at-zero, same_from_bits, bit_at_clear_same, bit_at_clear_other, bit_at-trailing_zeros, shr_and_one}
use Rattle.vsi_lattice.specs.Order.{IsJoin}
use Rattle.vsi_lattice.specs.Pairs.{Says}
use Rattle.vsi_lattice.specs.Rows.{row_has, IsPreorder, IsCommon, BothHaveOther, AreTied}

-- A bit that is set.
pub has_from_bit : (rows : List ℕ) (a b : ℕ) → bit_at (get_or rows a 0) b ≡ 1 → row_has rows a b ≡ true
unfolding row_has
has_from_bit rows a b h = eq-eqb (bit_at (get_or rows a 0) b) 1 h

-- The converse.
pub bit_from_has : (rows : List ℕ) (a b : ℕ) → row_has rows a b ≡ true → bit_at (get_or rows a 0) b ≡ 1
unfolding row_has
bit_from_has rows a b h = eqb-true (bit_at (get_or rows a 0) b) 1 h

-- Tests that imply each other are equal.
pub same_tests : (x y : Bool) → (x ≡ true → y ≡ true) → (y ≡ true → x ≡ true) → x ≡ y
same_tests true y f g = sym (f refl)
same_tests false true f g = g refl
same_tests false false f g = refl

-- A bit of the smaller of two numbers.
and_bits : (x y : ℕ) → x < 2 → y < 2 → (min x y == 1) ≡ ((x == 1) && (y == 1))
and_bits x y hx hy = grind (arith, nat_tests)

-- Bits that pass the same test are equal.
same_bits : (x y : ℕ) → x < 2 → y < 2 → (x == 1) ≡ (y == 1) → x ≡ y
same_bits x y hx hy e = grind (arith, nat_tests)

-- A bit of the intersection.
and_bit : (x y i : ℕ) → (bit_at (bit_and x y) i == 1) ≡ ((bit_at x i == 1) && (bit_at y i == 1))
and_bit x y i = ap (λ n. n == 1) (bit_at_and x y i)
    ∙ and_bits (bit_at x i) (bit_at y i) (bit_at-lt x i) (bit_at-lt y i)

-- The common row has the bits that both rows have.
has_common : (rows : List ℕ) (a b c d : ℕ) → IsCommon rows a b c →
    row_has rows c d ≡ (row_has rows a d && row_has rows b d)
unfolding row_has
has_common rows a b c d e = ap (λ n. bit_at n d == 1) e ∙ and_bit (get_or rows a 0) (get_or rows b 0) d

-- A row that has exactly the bits of both is the common one.
common_from : (rows : List ℕ) (a b c : ℕ) → ((d : ℕ) → row_has rows c d ≡ (row_has rows a d && row_has rows b d)) →
    IsCommon rows a b c
unfolding row_has
common_from rows a b c h = same_from_bits (get_or rows c 0) (bit_and (get_or rows a 0) (get_or rows b 0)) (λ i.
    same_bits (bit_at (get_or rows c 0) i) (bit_at (bit_and (get_or rows a 0) (get_or rows b 0)) i) (bit_at-lt _ i)
    (bit_at-lt _ i)
    (h i ∙ sym (and_bit (get_or rows a 0) (get_or rows b 0) i)))

-- The class whose row is the intersection is the join.
pub common_is_join : (count : ℕ) (rows : List ℕ) (a b c : ℕ) → IsPreorder count (row_has rows) → c < count →
    IsCommon rows a b c → IsJoin count (Says (row_has rows)) a b c
common_is_join count rows a b c w lt e =
    let own : (row_has rows a c ≡ true) × (row_has rows b c ≡ true) = and_parts _ _ (sym (has_common rows a b c c e)
    ∙ w.reflexive c lt) in
    record {
      within = lt;
      left = own.0;
      right = own.1;
      least = λ d _ p q. has_common rows a b c d e
          ∙ and_from _ _ p q;
    }

-- The join has the intersection as its row.
pub join_is_common : (count : ℕ) (rows : List ℕ) (a b c : ℕ) → IsPreorder count (row_has rows) →
    IsJoin count (Says (row_has rows)) a b c → IsCommon rows a b c
join_is_common count rows a b c w j = common_from rows a b c (λ d. same_tests _ _
    (λ h. and_from _ _ (w.transitive a c d j.left h) (w.transitive b c d j.right h))
    (λ h. let p = and_parts (row_has rows a d) (row_has rows b d) h in j.least d (w.within a d p.0).1 p.0 p.1))

-- The next class of a walk over all classes is above those before.
pub last_turn : (rows : List ℕ) (last a c : ℕ) → IsPreorder (length rows) (row_has rows) → c < length rows →
    IsCommon rows last a c
    → ((x : ℕ) → x < a → row_has rows x last ≡ true) → (x : ℕ) → x < a + 1 → row_has rows x c ≡ true
last_turn rows last a c w lt e h =
    let j = common_is_join (length rows) rows last a c w lt e in
    below_more (λ x. row_has rows x c ≡ true) a (λ x p. w.transitive x last c (h x p) j.left) j.right

-- The common bits except one.
abbrev pub others : ℕ → ℕ → ℕ → ℕ
others x y own = bit_and (bit_and x y) (bit_not w64 (1 * 2 ^ own % 2 ^ 64))

-- A bit of the intersection is in both.
bit_both : (x y i : ℕ) → bit_at (bit_and x y) i ≡ 1 → (bit_at x i ≡ 1) × (bit_at y i ≡ 1)
bit_both x y i h =
    let p = and_parts (bit_at x i == 1) (bit_at y i == 1) (sym (and_bit x y i) ∙ eq-eqb _ 1 h) in
    (eqb-true _ 1 p.0, eqb-true _ 1 p.1)

-- The converse.
both_bit : (x y i : ℕ) → bit_at x i ≡ 1 → bit_at y i ≡ 1 → bit_at (bit_and x y) i ≡ 1
both_bit x y i p q = eqb-true _ 1 (and_bit x y i ∙ and_from _ _ (eq-eqb _ 1 p) (eq-eqb _ 1 q))

-- A common bit other than the class's own is another bit that both have.
pub other_from_bit : (x y own i : ℕ) → own < 64 → i < 64 → bit_at (others x y own) i ≡ 1 → BothHaveOther x y own i
other_from_bit x y own i lo li h = elim (cases_eq i own) [
  | inl e ↦ absurd (let z : bit_at (others x y own) i ≡ 0 = ap (λ (k : ℕ). bit_at (others x y own) k) e
      ∙ bit_at_clear_same w64 (bit_and x y) own lo in omega (arith, z, h))
  | inr n ↦ (let p = bit_both x y i (sym (bit_at_clear_other w64 (bit_and x y) own lo i li n) ∙ h) in (n, p.0, p.1))
]

-- The converse.
pub bit_from_other : (x y own i : ℕ) → own < 64 → i < 64 → BothHaveOther x y own i → bit_at (others x y own) i ≡ 1
bit_from_other x y own i lo li h = bit_at_clear_other w64 (bit_and x y) own lo i li h.0 ∙ both_bit x y i h.1 h.2

-- If no bit is left, there is no other.
pub no_other : (x y own : ℕ) → own < 64 → others x y own ≡ 0 → (i : ℕ) → i < 64 → BothHaveOther x y own i → ⊥
no_other x y own lo z i li h = let e : bit_at (others x y own) i ≡ 0 = ap (λ (n : ℕ). bit_at n i) z
    ∙ bit_at-zero i in let f = bit_from_other x y own i lo li h in omega (arith, e, f)

-- The lowest bit that is left is the first other.
pub lowest_other : (x y own : ℕ) → own < 64 → 0 < others x y own → others x y own < 2 ^ 64
    → (trailing_zeros w64 (others x y own) < 64) × BothHaveOther x y own (trailing_zeros w64 (others x y own)) ×
    ((i : ℕ) → i < trailing_zeros w64 (others x y own) → BothHaveOther x y own i → ⊥)
lowest_other x y own lo pos lt =
    let t = bit_at-trailing_zeros w64 (others x y own) pos lt in (
      t.0,
      other_from_bit x y own _ lo t.0 t.1,
      λ i li h. let e =
          bit_from_other x y own i lo (omega (arith, li, t.0)) h in let z = t.2 i li in omega (arith, e, z),
    )

-- Two classes with another common bit are tied.
pub tied_from : (above below : List ℕ) (a b : ℕ) → BothHaveOther (get_or above a 0) (get_or below a 0) a b →
    AreTied above below a b
tied_from above below a b h = (λ e. h.0 (sym e), has_from_bit above a b h.1, has_from_bit below a b h.2)

-- The converse.
pub from_tied : (above below : List ℕ) (a b : ℕ) → AreTied above below a b →
    BothHaveOther (get_or above a 0) (get_or below a 0) a b
from_tied above below a b h = (λ e. h.0 (sym e), bit_from_has above a b h.1, bit_from_has below a b h.2)

-- A bit is not 0 exactly if it is 1.
bit_test : (x : ℕ) → x < 2 → not (x == 0) ≡ (x == 1)
bit_test x h = grind (arith, nat_tests)

-- The test that the code makes.
pub has_bit_test : (rows : List ℕ) (a b w i : ℕ) → w ≡ get_or rows a 0 → i ≡ b →
    not (bit_and (w / 2 ^ i) 1 == 0) ≡ row_has rows a b
unfolding row_has
has_bit_test rows a b w i e f =
    ap (λ n. not (n == 0)) (shr_and_one w i ∙ ap (λ x. bit_at x i) e ∙ ap (λ (k : ℕ). bit_at (get_or rows a 0) k) f)
    ∙ bit_test (bit_at (get_or rows a 0) b) (bit_at-lt (get_or rows a 0) b)
