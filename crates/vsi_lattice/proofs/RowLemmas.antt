-- Rows of bits as an order.
use Rattle.std.proofs.Common.{◌≡◌, ℕ, ◌+◌, ◌<◌, ◌≤◌, ◌==◌, ◌^◌, Bool, true, false, ◌&&◌, ◌||◌, List, length, get_or, refl, sym, ap, ◌∙◌, arith, max, map, cond}
use Rattle.std.proofs.Common.{take, drop, ◌++◌, set, inl, inr, eq-eqb, ne_eqb, lt-ltb, le-ltb}
use Rattle.std.proofs.lemmas.Bool.{cases_lt, cases_eq}
use Rattle.std.specs.Prelude.{bit_or, nat_lt}
use Rattle.std.proofs.lemmas.List.{append-nil, drop_all, get_or_default, take_all, get_or_past}
use Rattle.std.proofs.lemmas.List.Edits.{map_over_more}
use Rattle.std.specs.Int.{bit_at}
use Rattle.std.proofs.Math.ListN.{get_or-map}
use Rattle.std.proofs.lemmas.Nat.Bits.{bit_at_or, bit_at-lt, bit_at-zero, bit_at-pow_same, bit_at-pow_other}
use Rattle.std.proofs.lemmas.Bool.Decides.{nat_tests}
use Rattle.vsi_lattice.specs.Rows.{row_has, widened, AddsPair}

-- A disjunction with a false part.
or_false : (x : Bool) → x ≡ (x || false)
or_false true = refl
or_false false = refl

-- A bit of the larger of two numbers.
or_bits : (x y : ℕ) → x < 2 → y < 2 → (max x y == 1) ≡ ((x == 1) || (y == 1))
or_bits x y hx hy = grind (arith, nat_tests)

-- A bit of a row that may be widened.
widened-cases : (t : Bool) (row reached b : ℕ) →
    (bit_at (cond t (bit_or row reached) row) b == 1) ≡ ((bit_at row b == 1) || (t && (bit_at reached b == 1)))
widened-cases true row reached b =
    rw bit_at_or (or_bits (bit_at row b) (bit_at reached b) (bit_at-lt row b) (bit_at-lt reached b))
widened-cases false row reached b = or_false _

-- An empty row is not widened.
widened-zero : (low reached : ℕ) → widened low reached 0 ≡ 0
unfolding widened
widened-zero low reached = ap (λ n. cond (n == 1) (bit_or 0 reached) 0) (bit_at-zero low)

-- Widened rows have the consequences of one more pair.
pub row_has-widened : (old new : List ℕ) (low high : ℕ) → new ≡ map (widened low (get_or old high 0)) old →
    (a b : ℕ) → row_has new a b ≡ (row_has old a b || (row_has old a low && row_has old high b))
unfolding row_has widened
row_has-widened old new low high e a b =
    let f : ℕ → ℕ = widened low (get_or old high 0) in
    let z : get_or new a 0 ≡ f (get_or old a 0) = ap (λ l. get_or l a 0) e
    ∙ ap (get_or (map f old) a) (sym (widened-zero low (get_or old high 0))) ∙ get_or-map f old a 0 in
    ap (λ n. bit_at n b == 1) z ∙ widened-cases (bit_at (get_or old a 0) low == 1) (get_or old a 0)
    (get_or old high 0) b

-- One more row is written.
pub map_turn : (f : ℕ → ℕ) (xs ys : List ℕ) (i r : ℕ) → i < length xs → length ys ≡ length xs →
    ys ≡ map f (take i xs) ++ drop i xs → r ≡ f (get_or ys i 0) →
    set ys i r ≡ map f (take (i + 1) xs) ++ drop (i + 1) xs
map_turn f xs ys i r lt len e w = let lt' : i < length ys = omega arith in ap (set ys i) w
    ∙ map_over_more f xs ys i (get_or ys i 0) lt e (get_or_default ys i 0 (get_or ys i 0) lt')

-- All rows are written.
pub map_done : (f : ℕ → ℕ) (xs ys : List ℕ) (i : ℕ) → length xs ≤ i → ys ≡ map f (take i xs) ++ drop i xs →
    ys ≡ map f xs
map_done f xs ys i le e = e ∙ rw (take_all i xs le, drop_all i xs le) (append-nil _)

-- A power of two has one bit.
pow_bit : (a b : ℕ) → (bit_at (2 ^ a) b == 1) ≡ (a == b)
pow_bit a b = elim (cases_eq b a) [
  | inl e ↦ eq-eqb (bit_at (2 ^ a) b) 1 (ap (λ (i : ℕ). bit_at (2 ^ a) i) e ∙ bit_at-pow_same a)
      ∙ sym (eq-eqb a b (sym e))
  | inr n ↦ ap (λ m. m == 1) (bit_at-pow_other a b n) ∙ sym (ne_eqb a b (λ e. n (sym e)))
]

-- Each row has its own bit alone.
pub own_bit : (rows : List ℕ) (count : ℕ) → length rows ≡ count → ((k : ℕ) → k < count → get_or rows k 0 ≡ 2 ^ k) →
    (a b : ℕ) → row_has rows a b ≡ (nat_lt a count && (a == b))
unfolding row_has
own_bit rows count len each a b = elim (cases_lt a count) [
  | inl lt ↦ ap (λ n. bit_at n b == 1) (each a lt) ∙ pow_bit a b ∙ sym (ap (λ t. t && (a == b)) (lt-ltb a count lt))
  | inr le ↦ ap (λ n. bit_at n b == 1) (get_or_past rows a 0 (omega arith)) ∙ ap (λ n. n == 1) (bit_at-zero b)
      ∙ sym (ap (λ t. t && (a == b)) (le-ltb a count le))
]

-- The result of writing a slice of a whole Vec back.
pub written_back : (n : ℕ) (old new : List ℕ) → length new ≡ n → length old ≡ n →
    take n (new ++ drop (length new) old) ≡ new
written_back n old new e f =
    ap (λ l. take n (new ++ l)) (drop_all (length new) old (omega arith)) ∙ ap (take n) (append-nil new)
    ∙ take_all n new (omega arith)

-- A pair that is added to a slice of a whole Vec.
pub adds_written : (n : ℕ) (old now new : List ℕ) (low high : ℕ) → now ≡ old →
    AddsPair (row_has now) (row_has new) low high → length new ≡ n → length old ≡ n
    → AddsPair (row_has old) (row_has (take n (new ++ drop (length new) old))) low high
adds_written n old now new low high e h p q a b =
    ap (λ l. row_has l a b) (written_back n old new p q) ∙ h a b
    ∙ ap (λ l. row_has l a b || (row_has l a low && row_has l high b)) e
