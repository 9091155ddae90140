-- The order that pairs declare, extended by one pair.
use Rattle.std.proofs.Common.{◌≡◌, ℕ, zero, suc, ◌+◌, ◌<◌, ◌==◌, Bool, true, false, ◌&&◌, ◌||◌, List, [], ◌∷◌, ◌++◌, length, get_or, refl, sym, ap, ◌∙◌, arith, subst, inl, inr, ◌⊎◌, eqb-true, eq-eqb, ltb-true, lt-ltb, true≢false, ne_eqb, take}
use Rattle.std.proofs.lemmas.List.{take_more}
use Rattle.std.proofs.lemmas.Bool.{and_parts, and_right, cases_eq}
use Rattle.std.specs.Prelude.{Contains, nat_lt}
use Rattle.std.proofs.lemmas.List.Elements.{Contains-append_left, Contains-append_right, Contains-append_cases}
use Rattle.vsi_lattice.specs.Pairs.{Leq, stays, climbs, ArePairsBelow}
use Rattle.vsi_lattice.specs.Rows.{IsClosureOf, IsTransposed}

-- Chains can be joined.
pub Leq-trans : {pairs : List (ℕ × ℕ)} {a b c : ℕ} → Leq pairs a b → Leq pairs b c → Leq pairs a c
Leq-trans (stays a) q = q
Leq-trans (climbs a b c h p) q = climbs _ _ _ h (Leq-trans p q)

-- A chain remains when pairs are added.
pub Leq-more : {pairs : List (ℕ × ℕ)} {a b : ℕ} (more : List (ℕ × ℕ)) → Leq pairs a b → Leq (pairs ++ more) a b
Leq-more more (stays a) = stays a
Leq-more {pairs} more (climbs a b c h p) = climbs _ _ _ (Contains-append_left pairs more (a, b) h) (Leq-more more p)

-- If the disjunction is true, one of its parts is.
or_cases : (x y z : Bool) → (x || (y && z)) ≡ true → (x ≡ true) ⊎ ((y ≡ true) × (z ≡ true))
or_cases true y z h = inl refl
or_cases false true true h = inr (refl, refl)
or_cases false true false h = absurd (true≢false (sym h))
or_cases false false z h = absurd (true≢false (sym h))

-- The first part is enough for the disjunction.
or_left : (x y : Bool) → x ≡ true → (x || y) ≡ true
or_left x y h = ap (λ b. b || y) h

-- The second part, a conjunction, is enough for the disjunction.
or_right : (x y z : Bool) → y ≡ true → z ≡ true → (x || (y && z)) ≡ true
or_right true y z p q = refl
or_right false y z p q = ap (λ b. b && z) p ∙ q

-- A list with one element contains only that.
only : (p q : ℕ × ℕ) → Contains (p ∷ []) q → p ≡ q
only p q (zero, lt, e) = e
only p q (suc k, lt, e) = absurd (omega (arith, lt))

-- The order with one more pair.
pub add_step : (count : ℕ) (pairs : List (ℕ × ℕ)) (has has' : ℕ → ℕ → Bool) (low high : ℕ) → low < count →
    high < count
    → ((a b : ℕ) → has' a b ≡ (has a b || (has a low && has high b))) → IsClosureOf count pairs has →
    IsClosureOf count (pairs ++ (low, high) ∷ []) has'
add_step count pairs has has' low high hl hh e w =
    let split = λ (a b : ℕ) (h : has' a b ≡ true). or_cases (has a b) (has a low) (has high b) (sym (e a b) ∙ h) in
    let old = λ (a b : ℕ) (h : has a b ≡ true). e a b ∙ or_left (has a b) _ h in
    let new = λ (a b : ℕ) (p : has a low ≡ true) (q : has high b ≡ true). e a b ∙ or_right (has a b) _ _ p q in
    let one : List (ℕ × ℕ) = (low, high) ∷ [] in
    record {
      within = λ a b h. elim (split a b h) [
        | inl p ↦ w.within a b p
        | inr pq ↦
            ((w.within a low pq.0).0, (w.within high b pq.1).1)
      ];
      sound = λ a b h. elim (split a b h) [
        | inl p ↦ Leq-more one (w.sound a b p)
        | inr pq ↦
            Leq-trans (Leq-more one (w.sound a low pq.0)) (climbs low high b (Contains-append_right pairs one (
              low,
              high,
            ) (0, omega arith, refl)) (Leq-more one (w.sound high b pq.1)))
      ];
      reflexive = λ a h. old a a (w.reflexive a h);
      transitive = λ a b c h k. elim (split a b h) [
        | inl p ↦ elim (split b c k) [
          | inl q ↦ old a c (w.transitive a b c p q)
          | inr q ↦
              new a c (w.transitive a b low p q.0) q.1
        ]
        | inr p ↦ elim (split b c k) [ inl q ↦ new a c p.0 (w.transitive high b c p.1 q) | inr q ↦ new a c p.0 q.1 ]
      ];
      holds = λ a b h. elim (Contains-append_cases pairs one (a, b) h) [
        | inl p ↦ old a b (w.holds a b p)
        | inr q ↦ subst (λ (p : ℕ × ℕ). has' p.0 p.1 ≡ true) (only (low, high) (a, b) q)
            (new low high (w.reflexive low hl) (w.reflexive high hh))
      ];
    }

-- Without pairs each class is below itself alone.
pub no_pairs : (count : ℕ) (has : ℕ → ℕ → Bool) → ((a b : ℕ) → has a b ≡ (nat_lt a count && (a == b))) →
    IsClosureOf count [] has
no_pairs count has e =
    let parts = λ (a b : ℕ) (h : has a b ≡ true). and_parts (nat_lt a count) (a == b) (sym (e a b) ∙ h) in
    let lt = λ (a b : ℕ) (h : has a b ≡ true). ltb-true a count (parts a b h).0 in
    let same = λ (a b : ℕ) (h : has a b ≡ true). eqb-true a b (parts a b h).1 in
    record {
      within = λ a b h. (lt a b h, subst (λ x. x < count) (same a b h) (lt a b h));
      sound = λ a b h. subst (λ x. Leq [] a x) (same a b h) (stays a);
      reflexive = λ a h. e a a ∙ ap (λ t. t && (a == a)) (lt-ltb a count h) ∙ eq-eqb a a refl;
      transitive = λ a b c h k. subst (λ x. has a x ≡ true) (same b c k) h;
      holds = λ a b h. absurd (omega (arith, h.1));
    }

-- A chain of pairs is in the test.
pub complete : {count : ℕ} {pairs : List (ℕ × ℕ)} {has : ℕ → ℕ → Bool} {a b : ℕ} → IsClosureOf count pairs has →
    a < count → Leq pairs a b → has a b ≡ true
complete w lt (stays a) = w.reflexive a lt
complete w lt (climbs a b c h p) = w.transitive a b c (w.holds a b h) (complete w (w.within a b (w.holds a b h)).1 p)

-- Conjunction is commutative.
swap_and : (x y : Bool) → (x && y) ≡ (y && x)
swap_and true true = refl
swap_and true false = refl
swap_and false true = refl
swap_and false false = refl

-- Adding one more pair in both directions keeps them the reverse of each other.
pub transposed_step : (up up' down down' : ℕ → ℕ → Bool) (low high : ℕ)
    → ((a b : ℕ) → up' a b ≡ (up a b || (up a low && up high b))) →
    ((a b : ℕ) → down' a b ≡ (down a b || (down a high && down low b)))
    → IsTransposed up down → IsTransposed up' down'
transposed_step up up' down down' low high e f t a b =
    f b a ∙ ap (λ x. x || (down b high && down low a)) (t a b) ∙ ap (λ x. up a b || (x && down low a)) (t high b)
    ∙ ap (λ x. up a b || (up high b && x)) (t a low)
    ∙ ap (λ x. up a b || x) (swap_and (up high b) (up a low)) ∙ sym (e a b)

-- The order in which each class is below itself alone is its own reverse.
own_transposed : (count a b : ℕ) → (nat_lt b count && (b == a)) ≡ (nat_lt a count && (a == b))
own_transposed count a b = elim (cases_eq a b) [
  | inl e ↦ subst (λ x. (nat_lt x count && (x == a)) ≡ (nat_lt a count && (a == x))) e refl
  | inr n ↦ and_right (nat_lt b count) (b == a) (ne_eqb b a (λ e. n (sym e)))
      ∙ sym (and_right (nat_lt a count) (a == b) (ne_eqb a b n))
]

-- Without pairs the two directions agree.
pub no_pairs_transposed : (count : ℕ) (up down : ℕ → ℕ → Bool) →
    ((a b : ℕ) → up a b ≡ (nat_lt a count && (a == b))) → ((a b : ℕ) → down a b ≡ (nat_lt a count && (a == b))) →
    IsTransposed up down
no_pairs_transposed count up down e f a b = f b a ∙ own_transposed count a b ∙ sym (e a b)

-- One more pair of a list is added.
pub pair_turn : (count : ℕ) (pairs : List (ℕ × ℕ)) (i : ℕ) (has has' : ℕ → ℕ → Bool) → i < length pairs →
    ArePairsBelow count pairs
    → ((a b : ℕ) → has' a b ≡ (has a b || (has a (get_or pairs i (0, 0)).0 && has (get_or pairs i (0, 0)).1 b))) →
    IsClosureOf count (take i pairs) has → IsClosureOf count (take (i + 1) pairs) has'
pair_turn count pairs i has has' lt below e w =
    let p : ℕ × ℕ = get_or pairs i (0, 0) in
    let fits : (p.0 < count) × (p.1 < count) = below i (0, 0) lt in
    subst (λ ps. IsClosureOf count ps has') (sym (take_more pairs i (0, 0) lt))
    (add_step count (take i pairs) has has' p.0 p.1 fits.0 fits.1 e w)
