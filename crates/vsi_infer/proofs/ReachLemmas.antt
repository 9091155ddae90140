-- Sets that grow level by level.
use Rattle.std.proofs.Common.{◌≡◌, ◌≢◌, ◌⊎◌, ℕ, zero, suc, ◌+◌, ◌*◌, ◌/◌, ◌%◌, ◌<◌, ◌≤◌, ◌==◌, cond, Bool, true, false, not, ◌&&◌, ◌||◌, List, length, get_or, set, max, replicate, take, ◌++◌, refl, sym, ap, ◌∙◌, subst, arith, inl, inr, eq-eqb, ne_eqb, le-ltb, length-set, get_or-set_other, get_or-set_same, sum_by}
use Rattle.std.proofs.Math.Seq.{take-append_seam}
use Rattle.std.specs.Prelude.{nat_lt, bit_or, bit_xor}
use Rattle.std.specs.Int.{bit_at}
use Rattle.std.proofs.lemmas.Bool.{cases_eq, cases_lt, true≢false, false≢true, and_left, and_right, or_right}
use Rattle.std.proofs.lemmas.Bool.Decides.{nat_tests}
use Rattle.std.proofs.lemmas.List.{get_or-replicate}
use Rattle.std.proofs.lemmas.List.Sums.{sum_by-set, count_by-le-length}
use Rattle.std.proofs.lemmas.Nat.Bits.{bit_at_or, bit_at_xor, bit_at-lt, bit_at-zero}
use Rattle.vsi_infer.specs.FlowRows.{flow_has}
use Rattle.vsi_infer.specs.Distances.{Leads, AreLeast, unreached}
use Rattle.vsi_infer.specs.Reach.{IsNumbered, IsCollected, IsSpread, IsLevel}

-- The difference of two words has the bits of the first that the second lacks.
left_bit : (x y : ℕ) → x < 2 → y < 2 → ((max x y + y) % 2 == 1) ≡ ((x == 1) && not (y == 1))
left_bit zero zero h k = refl
left_bit zero (suc zero) h k = refl
left_bit (suc zero) zero h k = refl
left_bit (suc zero) (suc zero) h k = refl
left_bit (suc (suc x)) y h k = absurd (omega arith)
left_bit x (suc (suc y)) h k = absurd (omega arith)

-- A condition on a difference applies to both of its sides.
and_inside : (t x z : Bool) → (t && (x && not z)) ≡ ((t && x) && not (t && z))
and_inside true x z = refl
and_inside false x z = refl

-- A true second fact changes nothing.
and_true : (x : Bool) → x ≡ (x && true)
and_true true = refl
and_true false = refl

module _ (old new reached : List ℕ) (i : ℕ) (fits : i < length old)
    (e : new ≡ set old i (bit_xor (bit_or (get_or old i 0) (get_or reached i 0)) (get_or reached i 0))) where
  -- The word at this index loses the bits that were reached.
  left_here : (a : ℕ) → a / 64 ≡ i → flow_has new 0 a ≡ (flow_has old 0 a && not (flow_has reached 0 a))
  unfolding flow_has
  left_here a q =
      let place : 0 * 16 + a / 64 ≡ i = omega (arith, q) in
      let x : ℕ = get_or old (0 * 16 + a / 64) 0 in
      let y : ℕ = get_or reached (0 * 16 + a / 64) 0 in
      let word : get_or new (0 * 16 + a / 64) 0 ≡ bit_xor (bit_or (get_or old (0 * 16 + a / 64) 0)
      (get_or reached (0 * 16 + a / 64) 0)) (get_or reached (0 * 16 + a / 64) 0) =
      ap (λ l. get_or l (0 * 16 + a / 64) 0) e ∙ ap (λ (n : ℕ). get_or (set old i (bit_xor (bit_or (get_or old i 0)
      (get_or reached i 0)) (get_or reached i 0))) n 0) place ∙ get_or-set_same old i _ 0 fits
      ∙ ap (λ (n : ℕ). bit_xor (bit_or (get_or old n 0) (get_or reached n 0)) (get_or reached n 0)) (sym place) in
      ap (λ (n : ℕ). nat_lt a 1024 && (bit_at n (a % 64) == 1)) word
      ∙ ap (λ (n : ℕ). nat_lt a 1024 && (n == 1)) (bit_at_xor (bit_or x y) y (a % 64)
      ∙ ap (λ (n : ℕ). (n + bit_at y (a % 64)) % 2) (bit_at_or x y (a % 64)))
      ∙ ap (λ (t : Bool). nat_lt a 1024 && t) (left_bit (bit_at x (a % 64)) (bit_at y (a % 64))
      (bit_at-lt x (a % 64)) (bit_at-lt y (a % 64)))
      ∙ and_inside (nat_lt a 1024) (bit_at x (a % 64) == 1) (bit_at y (a % 64) == 1)

  -- Another word is unchanged.
  left_there : (a : ℕ) → a / 64 ≢ i → flow_has new 0 a ≡ flow_has old 0 a
  unfolding flow_has
  left_there a n = ap (λ l. nat_lt a 1024 && (bit_at (get_or l (0 * 16 + a / 64) 0) (a % 64) == 1)) e
      ∙ ap (λ (m : ℕ). nat_lt a 1024 && (bit_at m (a % 64) == 1))
      (get_or-set_other old i (0 * 16 + a / 64) _ 0 (λ q. n (omega (arith, q))))

  -- Leaving one word of the reached set out of a set leaves the rest of the set.
  pub left_word : (a : ℕ) → flow_has new 0 a ≡ (flow_has old 0 a && not ((a / 64 == i) && flow_has reached 0 a))
  left_word a = elim (cases_eq (a / 64) i) [
    | inl q ↦ left_here a q ∙ ap (λ t. flow_has old 0 a && not (t && flow_has reached 0 a))
        (sym (eq-eqb (a / 64) i q))
    | inr n ↦ left_there a n ∙ and_true (flow_has old 0 a)
        ∙ ap (λ t. flow_has old 0 a && not (t && flow_has reached 0 a)) (sym (ne_eqb (a / 64) i n))
  ]

-- Two words left out one after the other are left out together.
left_shuffle : (x l q m w : Bool) → m ≡ (l || q) → ((x && not (l && w)) && not (q && w)) ≡ (x && not (m && w))
left_shuffle false l q m w h = refl
left_shuffle true true q m true h = ap (λ t. not (t && true)) (sym h)
left_shuffle true true q m false h = left_none q m
  where
    left_none : (q m : Bool) → not (q && false) ≡ not (m && false)
    left_none true true = refl
    left_none true false = refl
    left_none false true = refl
    left_none false false = refl
left_shuffle true false q m w h = ap (λ t. not (t && w)) (sym h)

-- A number below the next one is below this one or is this one.
next_one : (q i : ℕ) → nat_lt q (i + 1) ≡ (nat_lt q i || (q == i))
next_one q i = grind (arith, nat_tests)

-- One more word is left out.
pub left_more : (x w : Bool) (q i : ℕ)
    → ((x && not (nat_lt q i && w)) && not ((q == i) && w)) ≡ (x && not (nat_lt q (i + 1) && w))
left_more x w q i = left_shuffle x (nat_lt q i) (q == i) (nat_lt q (i + 1)) w (next_one q i)

-- No word is left out yet.
pub left_start : (x w : Bool) (q : ℕ) → x ≡ (x && not (nat_lt q 0 && w))
left_start x w q = and_true x ∙ ap (λ t. x && not (t && w)) (sym (le-ltb q 0 (omega arith)))

-- A word that is 0 has no bits.
pub no_bits : (words : List ℕ) (v u : ℕ) → get_or words (v / 64) 0 ≡ 0 → u / 64 ≡ v / 64 → flow_has words 0 u ≡ false
unfolding flow_has
no_bits words v u z e =
    let word : get_or words (0 * 16 + u / 64) 0 ≡ 0 =
    ap (λ (n : ℕ). get_or words n 0) (let q : 0 * 16 + u / 64 ≡ v / 64 = omega (arith, e) in q) ∙ z in
    and_right (nat_lt u 1024) _ (ap (λ n. bit_at n (u % 64) == 1) word ∙ ap (λ n. n == 1) (bit_at-zero (u % 64)))

-- Bits are below 1,024.
pub has_small : (words : List ℕ) (row v : ℕ) → flow_has words row v ≡ true → v < 1024
unfolding flow_has
has_small words row v h = elim (cases_lt v 1024) [
  | inl lt ↦ lt
  | inr le ↦ absurd (false≢true (sym (and_left (nat_lt v 1024) _ (le-ltb v 1024 le)) ∙ h))
]

-- A truth value that isn't true is false.
not_true : (x : Bool) → (x ≡ true → ⊥) → x ≡ false
not_true true f = absurd (f refl)
not_true false f = refl

module _ (flows : ℕ → ℕ → Bool) (front : ℕ → Bool) (level : ℕ) (small : level < 65535) (old : List ℕ) where
  -- At the start nothing is done.
  pub spread_start : (next : ℕ → Bool) → ((v : ℕ) → next v ≡ false) → IsSpread flows front level 0 old old next false
  spread_start next none = record {
    len = refl;
    inside = λ u lt h. absurd (omega (arith, lt));
    outside = λ u h. refl;
    ahead = λ u le. refl;
    whole = λ a b lt h f. absurd (omega (arith, lt));
    sound = λ a h. absurd (false≢true (sym (none a) ∙ h));
    fewer = omega arith;
    quiet = λ e u lt. absurd (omega (arith, lt));
  }

  module _ (v : ℕ) (far : List ℕ) (next : ℕ → Bool) (more : Bool) (s : IsSpread flows front level v old far next more)
    where
      -- Places that aren't in the set are skipped.
      pub spread_skip : (w : ℕ) → v ≤ w → ((u : ℕ) → v ≤ u → u < w → front u ≡ false)
          → IsSpread flows front level w old far next more
      spread_skip w le no' = record {
        len = s.len;
        inside = λ u lt h. elim (cases_lt u v) [
          | inl l ↦ s.inside u l h
          | inr g ↦ absurd (false≢true (sym (no' u g lt) ∙ h))
        ];
        outside = s.outside;
        ahead = λ u h. s.ahead u (omega (arith, le, h));
        whole = λ a b lt h f. elim (cases_lt b v) [
          | inl l ↦ s.whole a b l h f
          | inr g ↦ absurd (false≢true (sym (no' b g lt) ∙ h))
        ];
        sound = s.sound;
        fewer = s.fewer;
        quiet = λ e u lt. elim (cases_lt u v) [
          | inl l ↦ s.quiet e u l
          | inr g ↦ no' u g lt
        ];
      }

      -- A place in the set is numbered.
      module _ (here : front v ≡ true) (lt : v < length old) (free : get_or old v 0 ≡ 65535) (next' : ℕ → Bool)
          (more' : (a : ℕ) → next' a ≡ (next a || flows a v)) where
        there : get_or far v 0 ≡ 65535
        there = s.ahead v (omega arith) ∙ free

        lies : v < length far
        lies = omega (arith, lt, s.len)

        same : get_or (set far v level) v 0 ≡ level
        same = get_or-set_same far v level 0 lies

        other : (u : ℕ) → u ≢ v → get_or (set far v level) u 0 ≡ get_or far u 0
        other u n = get_or-set_other far v u level 0 n

        fewer : unreached (set far v level) + cond true 1 0 ≤ unreached old
        fewer =
            let sums : sum_by (λ d. cond (d == 65535) 1 0) (set far v level) + cond (get_or far v 0 == 65535) 1 0
            ≡ sum_by (λ d. cond (d == 65535) 1 0) far + cond (level == 65535) 1 0 =
            sum_by-set (λ d. cond (d == 65535) 1 0) far v level 0 lies in
            let a : cond (get_or far v 0 == 65535) 1 0 ≡ (let x : ℕ = 1 in x) =
            ap (λ t. cond t 1 0) (eq-eqb (get_or far v 0) 65535 there) in
            let b : cond (level == 65535) 1 0 ≡ (let x : ℕ = 0 in x) =
            ap (λ t. cond t 1 0) (ne_eqb level 65535 (λ e. omega (arith, e, small))) in
            omega (arith, sums, a, b, s.fewer)

        or_in : (x y : Bool) → x ≡ true → (x || y) ≡ true
        or_in true y e = refl
        or_in false y e = absurd (false≢true e)

        or_some : (x y : Bool) (X Y : Type 0) → (x ≡ true → X) → (y ≡ true → X) → (x || y) ≡ true → X
        or_some true y X Y f g e = f refl
        or_some false y X Y f g e = g e

        pub spread_one : IsSpread flows front level (v + 1) old (set far v level) next' true
        spread_one = record {
          len = length-set far v level ∙ s.len;
          inside = λ u l h. elim (cases_eq u v) [
            | inl e ↦ ap (λ (x : ℕ). get_or (set far v level) x 0) e ∙ same
            | inr n ↦ other u n ∙ s.inside u (omega (arith, l, n)) h
          ];
          outside = λ u h. elim (cases_eq u v) [
            | inl e ↦ absurd (false≢true (sym h ∙ ap front e ∙ here))
            | inr n ↦ other u n ∙ s.outside u h
          ];
          ahead = λ u l. other u (λ e. omega (arith, e, l)) ∙ s.ahead u (omega (arith, l));
          whole = λ a b l h f. elim (cases_eq b v) [
            | inl e ↦ more' a ∙ or_right (next a) (flows a v) (ap (flows a) (sym e) ∙ f)
            | inr n ↦ more' a ∙ or_in (next a) (flows a v) (s.whole a b (omega (arith, l, n)) h f)
          ];
          sound = λ a h. or_some (next a) (flows a v) ((b : ℕ) × (front b ≡ true) × (flows a b ≡ true)) (Unit {0})
              (s.sound a) (λ f. (v, here, f)) (sym (more' a) ∙ h);
          fewer = fewer;
          quiet = λ e. absurd (true≢false e);
        }

  -- At the end all places of the set have their number.
  pub spread_numbered : (far : List ℕ) (next : ℕ → Bool) (more : Bool) (v : ℕ)
      → ((u : ℕ) → front u ≡ true → u < 1024) → 1024 ≤ v → IsSpread flows front level v old far next more
      → IsNumbered front level old far
  spread_numbered far next more v few le s = record {
    len = s.len;
    inside = λ u h. let l = few u h in s.inside u (omega (arith, l, le)) h;
    outside = s.outside;
  }

  -- After the last place, the sources of the set are collected.
  pub spread_collected : (far : List ℕ) (next : ℕ → Bool) (more : Bool) (v : ℕ)
      → ((u : ℕ) → front u ≡ true → u < 1024) → 1024 ≤ v → IsSpread flows front level v old far next more
      → IsCollected flows front next
  spread_collected far next more v few le s = record {
    whole = λ a b h f. let l = few b h in s.whole a b (omega (arith, l, le)) h f;
    sound = s.sound;
  }

  -- If nothing was found, the set is empty.
  pub spread_quiet : (far : List ℕ) (next : ℕ → Bool) (more : Bool) (v : ℕ)
      → ((u : ℕ) → front u ≡ true → u < 1024) → 1024 ≤ v → IsSpread flows front level v old far next more
      → more ≡ false → (u : ℕ) → front u ≡ false
  spread_quiet far next more v few le s e u = elim (cases_lt u 1024) [
    | inl l ↦ s.quiet e u (omega (arith, l, le))
    | inr g ↦ not_true (front u) (λ t. let l = few u t in omega (arith, l, g))
  ]

-- A slice written back is the vector's beginning.
pub written : (n : ℕ) (x y : List ℕ) → n ≡ length x → take n (x ++ y) ≡ x
written n x y e = ap (λ (k : ℕ). take k (x ++ y)) e ∙ take-append_seam x y

-- A conjunction implies its first part.
and_first : (x y : Bool) → (x && y) ≡ true → x ≡ true
and_first true y e = refl
and_first false y e = absurd (false≢true e)

-- A member of the difference of two sets isn't in the second.
and_not : (x y : Bool) → (x && not y) ≡ true → y ≡ false
and_not true true e = absurd (false≢true e)
and_not true false e = refl
and_not false y e = absurd (false≢true e)

-- A member of a set that isn't in its difference with another is in the other.
one_of : (x y : Bool) → x ≡ true → (x && not y) ≡ false → y ≡ true
one_of true true e f = refl
one_of true false e f = absurd (true≢false f)
one_of false y e f = absurd (false≢true e)

-- If a disjunction holds, one of its sides does.
either_of : (x y : Bool) → (x || y) ≡ true → (x ≡ true) ⊎ (y ≡ true)
either_of true y e = inl refl
either_of false y e = inr e

-- If a disjunction fails, its first side does.
neither_left : (x y : Bool) → (x || y) ≡ false → x ≡ false
neither_left true y e = absurd (true≢false e)
neither_left false y e = refl

-- If a disjunction fails, its second side does.
neither_right : (x y : Bool) → (x || y) ≡ false → y ≡ false
neither_right true y e = absurd (true≢false e)
neither_right false y e = e

-- A test holds or fails.
true_or_false : (x : Bool) → (x ≡ true) ⊎ (x ≡ false)
true_or_false true = inl refl
true_or_false false = inr refl

-- If only one place was added to an empty set, every member is that place.
pub only_one : (v b : ℕ) (x : Bool) → x ≡ false → (x || (true && (v == b))) ≡ true → v ≡ b
only_one v b true e h = absurd (true≢false e)
only_one v b false e h = elim (cases_eq v b) [
  | inl q ↦ q
  | inr n ↦ absurd (false≢true (sym (ne_eqb v b n) ∙ h))
]

module _ (flows : ℕ → ℕ → Bool) (count b : ℕ) (few : count ≤ 1025)
    (within : (x y : ℕ) → flows x y ≡ true → (x < count) × (y < count)) where
  module _ (level : ℕ) (far : List ℕ) (reached front front' reached' : ℕ → Bool)
      (s : IsLevel flows count b level far reached front) (bits : (a : ℕ) → front a ≡ true → a < 1024)
      (left : (a : ℕ) → front' a ≡ (front a && not (reached a))) where
    -- The places of the new set are below the count.
    pub fresh_within : (a : ℕ) → front' a ≡ true → a < count
    fresh_within a h =
        let c = s.sources a (and_first (front a) (not (reached a)) (sym (left a) ∙ h)) in (within a c.0 c.2).0

    -- A place in the new set has no number yet.
    pub fresh_free : (a : ℕ) → front' a ≡ true → get_or far a 0 ≡ 65535
    fresh_free a h =
        let f = and_first (front a) (not (reached a)) (sym (left a) ∙ h) in
        s.unreached_free a (fresh_within a h) (bits a f) (and_not (front a) (reached a) (sym (left a) ∙ h))

    -- A place with a number isn't in the new set.
    numbered_old : (v : ℕ) → get_or far v 0 < 65535 → front' v ≡ false
    numbered_old v lt = not_true (front' v) (λ h. let e = fresh_free v h in omega (arith, e, lt))

    -- A source of a place of an earlier level is new and one flow further away, or has a number at most one larger.
    step_below : (v c : ℕ) → flows v c ≡ true → get_or far c 0 < level → get_or far c 0 < 65535
        → (front' v ≡ true × (get_or far c 0 + 1 ≡ level)) ⊎ ((get_or far v 0 ≤ get_or far c 0 + 1)
        × (front' v ≡ false))
    step_below v c f lt small = elim (cases_lt (get_or far c 0 + 1) level) [
      | inl l ↦ (let d = s.sound c (within v c f).1 small in
          let le : get_or far v 0 ≤ get_or far c 0 + 1 =
          (let q = s.least (suc (get_or far c 0)) v (omega (arith, l)) (c, f, d) in omega (arith, q)) in
          inr (le, numbered_old v (omega (arith, le, lt, s.bound, few, l))))
      | inr g ↦ (let e : get_or far c 0 + 1 ≡ level = omega (arith, g, lt) in
          let h = s.whole v c e f in elim (true_or_false (front' v)) [
            | inl t ↦ inl (t, e)
            | inr n ↦ (let r = s.reached_numbered v (within v c f).0 (one_of (front v) (reached v) h (sym (left v) ∙ n))
                in let q = s.below v (within v c f).0 r in inr (omega (arith, q, e), n))
          ])
    ]

    module _ (new : List ℕ) (next : ℕ → Bool) (more : Bool) (num : IsNumbered front' level far new)
        (both : (a : ℕ) → reached' a ≡ (reached a || front' a)) (got : IsCollected flows front' next)
        (fewer : unreached new + cond more 1 0 ≤ unreached far) (yes' : more ≡ true) (small : level < 65535) where
      -- A place with a number leads to the target in that many flows.
      sound : (v : ℕ) → v < count → get_or new v 0 < 65535 → Leads flows (get_or new v 0) v b
      sound v lt h = elim (true_or_false (front' v)) [
        | inl t ↦ (let c = s.sources v (and_first (front v) (not (reached v)) (sym (left v) ∙ t)) in
            let d = s.sound c.0 (within v c.0 c.2).1 (omega (arith, c.1, small)) in
            let e : get_or new v 0 ≡ suc (get_or far c.0 0) = omega (arith, num.inside v t, c.1) in
            subst (λ (n : ℕ). Leads flows n v b) (sym e) (c.0, c.2, d))
        | inr n ↦ subst (λ (m : ℕ). Leads flows m v b) (sym (num.outside v n))
            (s.sound v lt (omega (arith, h, num.outside v n)))
      ]

      -- A number is below the next level.
      below : (v : ℕ) → v < count → get_or new v 0 < 65535 → get_or new v 0 < level + 1
      below v lt h = elim (true_or_false (front' v)) [
        | inl t ↦ omega (arith, num.inside v t)
        | inr n ↦ (let q = s.below v lt (omega (arith, h, num.outside v n)) in omega (arith, q, num.outside v n))
      ]

      -- A place that flows to a numbered place gets at most one more.
      least_at : (v c n : ℕ) → flows v c ≡ true → get_or far c 0 ≤ n → n + 1 ≡ level → get_or new v 0 ≤ n + 1
      least_at v c n f le e = elim (step_below v c f (omega (arith, le, e)) (omega (arith, le, e, small))) [
        | inl q ↦ omega (arith, num.inside v q.0, e)
        | inr q ↦ omega (arith, num.outside v q.1, q.0, le)
      ]

      -- A place that leads to the target in n flows has a number of at most n.
      least : (n v : ℕ) → n < level + 1 → Leads flows n v b → get_or new v 0 ≤ n
      least zero v lt w =
          let le = s.least zero v (omega (arith, s.some)) w in
          omega (arith, le, num.outside v (numbered_old v (omega (arith, le))))
      least (suc n) v lt (c, f, w) = elim (cases_lt (suc n) level) [
        | inl l ↦ (let le = s.least (suc n) v l (c, f, w) in
            omega (arith, le, num.outside v (numbered_old v (omega (arith, le, l, small)))))
        | inr g ↦ (let le = s.least n c (omega (arith, lt)) w in
            let q = least_at v c n f le (omega (arith, g, lt)) in omega (arith, q))
      ]

      -- One more level is complete.
      more_is : IsLevel flows count b (level + 1) new reached' next
      more_is = record {
        some = omega arith;
        len = num.len ∙ s.len;
        sound = sound;
        below = below;
        least = least;
        reached_numbered = λ v lt h. elim (true_or_false (front' v)) [
          | inl t ↦ omega (arith, num.inside v t, small)
          | inr n ↦ elim (either_of (reached v) (front' v) (sym (both v) ∙ h)) [
            | inl r ↦ (let q = s.reached_numbered v lt r in omega (arith, q, num.outside v n))
            | inr t ↦ absurd (false≢true (sym n ∙ t))
          ]
        ];
        unreached_free = λ v lt l h.
            num.outside v (neither_right (reached v) (front' v) (sym (both v) ∙ h))
            ∙ s.unreached_free v lt l (neither_left (reached v) (front' v) (sym (both v) ∙ h));
        whole = λ a c e f. elim (true_or_false (front' c)) [
          | inl t ↦ got.whole a c t f
          | inr n ↦ absurd (let q = s.below c (within a c f).1 (omega (arith, e, num.outside c n, small)) in
              omega (arith, q, e, num.outside c n))
        ];
        sources = λ a h. let c = got.sound a h in (c.0, omega (arith, num.inside c.0 c.1), c.2);
        bound = let q = subst (λ t. unreached new + cond t 1 0 ≤ unreached far) yes' fewer in
            omega (arith, q, s.bound);
      }

      -- The numbers are those of the next level.
      pub level_more : (all : List ℕ) → all ≡ new → IsLevel flows count b (level + 1) all reached' next
      level_more all e = subst (λ l. IsLevel flows count b (level + 1) l reached' next) (sym e) more_is

    -- The next level has no new place.
    module _ (new : List ℕ) (num : IsNumbered front' level far new) (none : (a : ℕ) → front' a ≡ false)
        (small : level < 65535) where
      -- A place that leads to the target at all has a number, and it is least.
      all_least : (n v : ℕ) → Leads flows n v b → (get_or far v 0 < 65535) × (get_or far v 0 ≤ n)
      all_least zero v w = let le = s.least zero v (omega (arith, s.some)) w in (omega (arith, le), le)
      all_least (suc n) v (c, f, w) =
          let q = all_least n c w in
          let l = s.below c (within v c f).1 q.0 in
          elim (step_below v c f l q.0) [
            | inl t ↦ absurd (false≢true (sym (none v) ∙ t.0))
            | inr t ↦ (omega (arith, t.0, l, small), omega (arith, t.0, q.1))
          ]

      -- After the last level all numbers are least.
      pub level_last : (all : List ℕ) → all ≡ new → AreLeast flows count b all
      level_last all e = subst (AreLeast flows count b) (sym e) record {
        len = num.len ∙ s.len;
        sound = λ v lt h. subst (λ (n : ℕ). Leads flows n v b) (sym (num.outside v (none v)))
            (s.sound v lt (omega (arith, h, num.outside v (none v))));
        least = λ n v w. let q = all_least n v w in
            (omega (arith, q.0, num.outside v (none v)), omega (arith, q.1, num.outside v (none v)));
      }

  -- The first level is the target itself.
  pub level_first : (far : List ℕ) (reached front : ℕ → Bool) → b < count → far ≡ set (replicate count 65535) b 0
      → ((v : ℕ) → reached v ≡ true → v ≡ b) → (b < 1024 → reached b ≡ true)
      → ((v : ℕ) → front v ≡ flows v b) → IsLevel flows count b 1 far reached front
  level_first far reached front lt e alone there came = record {
    some = omega arith;
    len = ap length e ∙ length-set (replicate {A = ℕ} count 65535) b 0 ∙ length_same count;
    sound = λ v l h. elim (cases_eq v b) [
      | inl q ↦ subst (λ (n : ℕ). Leads flows n v b) (sym (ap (λ (u : ℕ). get_or far u 0) q ∙ here)) q
      | inr n ↦ absurd (omega (arith, away v l n, h))
    ];
    below = λ v l h. elim (cases_eq v b) [
      | inl q ↦ omega (arith, ap (λ (u : ℕ). get_or far u 0) q, here)
      | inr n ↦ absurd (omega (arith, away v l n, h))
    ];
    least = least;
    reached_numbered = λ v l h. omega (arith, ap (λ (u : ℕ). get_or far u 0) (alone v h), here);
    unreached_free = λ v l k h. elim (cases_eq v b) [
      | inl q ↦ absurd (false≢true (sym h ∙ ap reached q ∙ there (omega (arith, k, q))))
      | inr n ↦ away v l n
    ];
    whole = λ a c q f. elim (cases_eq c b) [
      | inl p ↦ came a ∙ ap (flows a) (sym p) ∙ f
      | inr n ↦ absurd (omega (arith, away c (within a c f).1 n, q))
    ];
    sources = λ a h. (b, omega (arith, here), sym (came a) ∙ h);
    bound = bound;
  }
    where
      length_same : (n : ℕ) → length (replicate {A = ℕ} n 65535) ≡ n
      length_same zero = refl
      length_same (suc n) = ap suc (length_same n)

      here : get_or far b 0 ≡ (let x : ℕ = 0 in x)
      here = ap (λ l. get_or l b 0) e ∙ get_or-set_same (replicate {A = ℕ} count 65535) b 0 0
          (omega (arith, lt, length_same count))

      away : (v : ℕ) → v < count → v ≢ b → get_or far v 0 ≡ 65535
      away v l n = ap (λ x. get_or x v 0) e ∙ get_or-set_other (replicate {A = ℕ} count 65535) b v 0 0 n
          ∙ get_or-replicate count v 65535 0 l

      least : (n v : ℕ) → n < 1 → Leads flows n v b → get_or far v 0 ≤ n
      least zero v l w = omega (arith, ap (λ (u : ℕ). get_or far u 0) w, here)
      least (suc n) v l w = absurd (omega (arith, l))

      bound : 1 + unreached far ≤ count
      bound =
          let same = replicate {A = ℕ} count 65535 in
          let sums : sum_by (λ d. cond (d == 65535) 1 0) (set same b 0) + cond (get_or same b 0 == 65535) 1 0
          ≡ sum_by (λ d. cond (d == 65535) 1 0) same + (let x : ℕ = 0 in x) =
          sum_by-set (λ d. cond (d == 65535) 1 0) same b 0 0 (omega (arith, lt, length_same count)) in
          let a : cond (get_or same b 0 == 65535) 1 0 ≡ (let x : ℕ = 1 in x) =
          ap (λ t. cond t 1 0) (eq-eqb (get_or same b 0) 65535 (get_or-replicate count b 65535 0 lt)) in
          let t = count_by-le-length (λ (d : ℕ). d == 65535) same in
          omega (arith, sums, a, t, length_same count, ap unreached e)
