-- A bit that is set, and the others.
use Rattle.std.proofs.Common.{◌≡◌, ◌≢◌, ℕ, ◌*◌, ◌/◌, ◌%◌, ◌^◌, ◌<◌, List, length, get_or, true, false, zero, suc, refl, replicate, nat_eq, ap, ◌∙◌, sym, arith, inl, inr}
use Rattle.std.specs.Prelude.{slice_set, bit_or}
use Rattle.std.specs.Int.{bit_at, w64}
use Rattle.std.proofs.lemmas.Nat.Bits.{bit_at-zero, bit_at_set_same, bit_at_set_other}
use Rattle.std.proofs.lemmas.List.{get_or-set_same, get_or-set_other}
use Rattle.std.proofs.lemmas.Bool.{cases_eq}
use Rattle.vsi_image.specs.Marks.{marked}

-- A row of words with one more bit.
abbrev pub with_mark : List ℕ → ℕ → List ℕ
with_mark words at =
    slice_set words (at / 64) (bit_or (get_or words (at / 64) 0) (1 * 2 ^ (at % 64) % 2 ^ 64))

-- The bit that was set is set.
pub mark_here : (words : List ℕ) (at : ℕ) → at < 64 * length words → marked (with_mark words at) at ≡ true
mark_here words at h =
    let within : at / 64 < length words = omega arith in
    let word = bit_or (get_or words (at / 64) 0) (1 * 2 ^ (at % 64) % 2 ^ 64) in
    let low : at % 64 < 64 = omega arith in
    ap (λ n. nat_eq (bit_at n (at % 64)) 1) (get_or-set_same words (at / 64) word 0 within)
    ∙ ap (λ n. nat_eq n 1) (bit_at_set_same w64 (get_or words (at / 64) 0) (at % 64) low)

-- The other bits are unchanged.
pub mark_other :
    (words : List ℕ) (at k : ℕ) → at < 64 * length words → k ≢ at
    → marked (with_mark words at) k ≡ marked words k
mark_other words at k h o =
    let within : at / 64 < length words = omega arith in
    let word = bit_or (get_or words (at / 64) 0) (1 * 2 ^ (at % 64) % 2 ^ 64) in
    let low : at % 64 < 64 = omega arith in
    elim (cases_eq (k / 64) (at / 64)) [
      | inl e ↦
          let other : k % 64 ≢ at % 64 = λ f. o (omega arith) in
          ap (λ n. nat_eq (bit_at (get_or (with_mark words at) n 0) (k % 64)) 1) e
          ∙ ap (λ n. nat_eq (bit_at n (k % 64)) 1) (get_or-set_same words (at / 64) word 0 within)
          ∙ ap (λ n. nat_eq n 1) (bit_at_set_other w64 (get_or words (at / 64) 0) (at % 64) low (k % 64) other)
          ∙ ap (λ n. nat_eq (bit_at (get_or words n 0) (k % 64)) 1) (sym e)
      | inr e ↦ ap (λ n. nat_eq (bit_at n (k % 64)) 1) (get_or-set_other words (at / 64) (k / 64) word 0 e)
    ]

-- Every element of a list of zeros is 0.
zeros : (n k : ℕ) → ◌≡◌ {A = ℕ} (get_or (replicate n 0) k 0) 0
zeros zero k = refl
zeros (suc n) zero = refl
zeros (suc n) (suc k) = zeros n k

-- No bit is set in a row of zeros.
pub no_marks : (n k : ℕ) → marked (replicate n 0) k ≡ false
no_marks n k = ap (λ x. nat_eq (bit_at x (k % 64)) 1) (zeros n (k / 64)) ∙ ap (λ x. nat_eq x 1) (bit_at-zero (k % 64))
