-- Rows of bits.
use Rattle.std.proofs.Common.{◌≡◌, ◌≢◌, ℕ, ◌+◌, ◌*◌, ◌/◌, ◌%◌, ◌^◌, ◌<◌, Bool, true, false, ◌||◌, max, cond, eqb, ltb, List, length, get_or, replicate, sym, ap, ◌∙◌, ⊎_elim, arith}
use Rattle.std.specs.Prelude.{slice_set, bit_or, bit_and}
use Rattle.std.specs.Int.{w64, bit_not, bit_at}
use Rattle.std.proofs.lemmas.List.{get_or-set_same, get_or-set_other, get_or_past, get_or-replicate}
use Rattle.std.proofs.lemmas.Bool.{cases_eq, cases_lt, lt-ltb, le-ltb, eq-eqb, ne_eqb}
use Rattle.std.proofs.lemmas.Nat.Bits.{bit_at_set_same, bit_at_set_other, bit_at_clear_same, bit_at_clear_other, bit_at_or, bit_at-lt, bit_at-zero}
use Rattle.vsi_opt.specs.Liveness.{Locations, joined, with_bit}
use Rattle.vsi_opt.specs.Ranges.{bit_of}
use Rattle.vsi_opt.specs.Optimised.{globals_alone}

-- Setting one bit of one word, with the others unchanged, puts one number in or takes it out.
pub set_bits : (ws : List ℕ) (l v : ℕ) (b : Bool) → l / 64 < length ws → (eqb (bit_at v (l % 64)) 1 ≡ b) →
    ((j : ℕ) → j < 64 → j ≢ l % 64 → bit_at v j ≡ bit_at (get_or ws (l / 64) 0) j) → bit_of
    (slice_set ws (l / 64) v) ≡ with_bit (bit_of ws) l b
set_bits ws l v b lt same other = λ i x. go x i
  where
    go : (x : ℕ) → bit_of (slice_set ws (l / 64) v) x ≡ with_bit (bit_of ws) l b x
    go x =
        ⊎_elim
        (λ is.
        ap (bit_of (slice_set ws (l / 64) v)) is
        ∙ ap (λ w. eqb (bit_at w (l % 64)) 1) (get_or-set_same ws (l / 64) v 0 lt)
        ∙ same
        ∙ sym (ap (λ t. cond t b (bit_of ws x)) (eq-eqb x l is)))
        (λ ne.
        ⊎_elim
        (λ at.
        ap (λ k. eqb (bit_at (get_or (slice_set ws (l / 64) v) k 0) (x % 64)) 1) at
        ∙ ap (λ w. eqb (bit_at w (x % 64)) 1) (get_or-set_same ws (l / 64) v 0 lt)
        ∙ ap (λ n. eqb n 1) (other (x % 64) (omega arith) (λ e. ne (omega (arith, at, e))))
        ∙ ap (λ k. eqb (bit_at (get_or ws k 0) (x % 64)) 1) (sym at))
        (λ far. ap (λ w. eqb (bit_at w (x % 64)) 1) (get_or-set_other ws (l / 64) (x / 64) v 0 far))
        (cases_eq (x / 64) (l / 64))
        ∙ sym (ap (λ t. cond t b (bit_of ws x)) (ne_eqb x l ne)))
        (cases_eq x l)

-- The bit that `insert` sets.
pub insert_bits : (ws : List ℕ) (l : ℕ) → l < 1024 → length ws ≡ 16 →
    bit_of (slice_set ws (l / 64) (bit_or (get_or ws (l / 64) 0) (1 * 2 ^ (l % 64) % 2 ^ 64))) ≡ with_bit
    (bit_of ws) l true
insert_bits ws l lt len =
    set_bits ws l _ true (omega (arith, lt, len))
    (ap (λ n. eqb n 1) (bit_at_set_same w64 (get_or ws (l / 64) 0) (l % 64) (omega arith)))
    (λ j below ne. bit_at_set_other w64 (get_or ws (l / 64) 0) (l % 64) (omega arith) j ne)

-- The bit that `remove` clears.
pub remove_bits : (ws : List ℕ) (l : ℕ) → l < 1024 → length ws ≡ 16 →
    bit_of (slice_set ws (l / 64) (bit_and (get_or ws (l / 64) 0) (bit_not w64 (1 * 2 ^ (l % 64) % 2 ^ 64)))) ≡
    with_bit (bit_of ws) l false
remove_bits ws l lt len =
    set_bits ws l _ false (omega (arith, lt, len))
    (ap (λ n. eqb n 1) (bit_at_clear_same w64 (get_or ws (l / 64) 0) (l % 64) (omega arith)))
    (λ j below ne. bit_at_clear_other w64 (get_or ws (l / 64) 0) (l % 64) (omega arith) j below ne)

-- The greater of two bits is 1 exactly if either is.
bit_max : (a b : ℕ) → a < 2 → b < 2 → eqb (max a b) 1 ≡ (eqb a 1 || eqb b 1)
bit_max a b la lb =
    ⊎_elim
    (λ e. eq-eqb (max a b) 1 (omega (arith, e, la, lb)) ∙ sym (ap (λ t. t || eqb b 1) (eq-eqb a 1 e)))
    (λ ne.
    let is : max a b ≡ b = omega (arith, ne, la) in
    ap (λ n. eqb n 1) is ∙ sym (ap (λ t. t || eqb b 1) (ne_eqb a 1 ne)))
    (cases_eq a 1)

-- The words joined one by one are the union.
pub join_bits : (as' os ws : List ℕ) → length as' ≡ 16 → length os ≡ 16 → length ws ≡ 16 →
    ((j : ℕ) → j < 16 → get_or ws j 0 ≡ bit_or (get_or as' j 0) (get_or os j 0)) → bit_of ws ≡ joined (bit_of as')
    (bit_of os)
join_bits as' os ws la lo lw h = λ i x. go x i
  where
    go : (x : ℕ) → bit_of ws x ≡ joined (bit_of as') (bit_of os) x
    go x =
        ⊎_elim
        (λ lt.
        ap (λ w. eqb (bit_at w (x % 64)) 1) (h (x / 64) lt)
        ∙ ap (λ n. eqb n 1) (bit_at_or (get_or as' (x / 64) 0) (get_or os (x / 64) 0) (x % 64))
        ∙ bit_max (bit_at (get_or as' (x / 64) 0) (x % 64)) (bit_at (get_or os (x / 64) 0) (x % 64))
        (bit_at-lt (get_or as' (x / 64) 0) (x % 64)) (bit_at-lt (get_or os (x / 64) 0) (x % 64)))
        (λ ge.
        let z : (ks : List ℕ) → length ks ≡ 16 → bit_of ks x ≡ eqb (bit_at 0 (x % 64)) 1 = λ ks lk.
        ap (λ w. eqb (bit_at w (x % 64)) 1) (get_or_past ks (x / 64) 0 (omega (arith, ge, lk))) in
        let none : eqb (bit_at 0 (x % 64)) 1 ≡ false = ap (λ n. eqb n 1) (bit_at-zero (x % 64)) in
        z ws lw ∙ none ∙ sym (ap (λ t. t || bit_of os x) (z as' la ∙ none) ∙ z os lo ∙ none))
        (cases_lt (x / 64) 16)

-- A number is below the next one if it is below the number or equal to it.
one_below : (l i : ℕ) → cond (eqb l i) true (ltb l i) ≡ ltb l (i + 1)
one_below l i =
    ⊎_elim
    (λ e. ap (λ t. cond t true (ltb l i)) (eq-eqb l i e) ∙ sym (lt-ltb l (i + 1) (omega (arith, e))))
    (λ ne.
    ap (λ t. cond t true (ltb l i)) (ne_eqb l i ne)
    ∙ ⊎_elim
    (λ lt. lt-ltb l i lt ∙ sym (lt-ltb l (i + 1) (omega (arith, lt))))
    (λ ge. le-ltb l i ge ∙ sym (le-ltb l (i + 1) (omega (arith, ge, ne))))
    (cases_lt l i))
    (cases_eq l i)

-- The numbers below a number, with that number, are those below the next.
pub below_more : (i : ℕ) (a b : Locations) → a ≡ globals_alone i → b ≡ with_bit a i true → b ≡ globals_alone (i + 1)
below_more i a b e f = f ∙ ap (λ x. with_bit x i true) e ∙ (λ j l. one_below l i j)

-- The words of the empty set.
abbrev pub nothing : List ℕ
nothing = replicate 16 0

-- Each word of the empty set is 0.
zero_at : (k : ℕ) → get_or (nothing) k 0 ≡ 0
zero_at k = ⊎_elim (λ lt. get_or-replicate 16 k 0 0 lt) (λ ge. get_or_past (nothing) k 0 ge) (cases_lt k 16)

-- The empty set is the set of the numbers below 0.
pub none_below : bit_of (nothing) ≡ globals_alone 0
none_below = λ i x. go x i
  where
    go : (x : ℕ) → bit_of (nothing) x ≡ globals_alone 0 x
    go x =
        ap (λ w. eqb (bit_at w (x % 64)) 1) (zero_at (x / 64))
        ∙ ap (λ n. eqb n 1) (bit_at-zero (x % 64))
        ∙ sym (le-ltb x 0 (omega arith))
