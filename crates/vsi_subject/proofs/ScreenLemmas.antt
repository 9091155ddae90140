-- The bytes of a tame text, one after another.
use Rattle.std.proofs.Common.{◌≡◌, ℕ, suc, ◌+◌, ◌-◌, ◌<◌, cond, Bool, true, false, List, [], ◌∷◌, length, get_or, take, drop, refl, sym, ap, ◌∙◌, ◌&&◌, ◌==◌, arith}
use Rattle.std.specs.Prelude.{if◌then◌else◌}
use Rattle.std.proofs.Math.Seq.{drop-cons}
use Rattle.std.proofs.lemmas.List.{take_all, length-drop}
use Rattle.std.proofs.lemmas.Bool.{ne_eqb}
use Rattle.vsi_telling.specs.Safe.{is_plain}
use Rattle.vsi_subject.specs.Screen.{colour_length, is_tame, is_tame_after, tamed}

-- The bytes from a position on are the byte there and the others.
cut : (xs : List ℕ) (at d : ℕ) → at < length xs → drop at xs ≡ get_or xs at d ∷ drop (at + 1) xs
cut xs at d within =
    let e : suc at ≡ at + 1 = omega arith in
    drop-cons xs at d within ∙ ap (λ k. get_or xs at d ∷ drop k xs) e

-- The bytes from a position up to the end are those from the position on.
rest_whole : (xs : List ℕ) (at : ℕ) → take (length xs - at) (drop at xs) ≡ drop at xs
rest_whole xs at = take_all (length xs - at) (drop at xs) (omega (arith, length-drop at xs))

-- A byte of a sequence that has begun is passed.
pub passed : (xs : List ℕ) (at left next : ℕ) → at < length xs → (left ≡ 0 → ⊥) → next ≡ left - 1
    → is_tame_after left (drop at xs) ≡ is_tame_after next (drop (at + 1) xs)
passed xs at left next within some is =
    let e : left ≡ suc next = omega (arith, some, is) in
    ap (λ k. is_tame_after k (drop at xs)) e ∙ ap (is_tame_after (suc next)) (cut xs at 0 within)

-- A sequence begins at a byte.
pub begun : (xs : List ℕ) (at whole next : ℕ) → at < length xs
    → whole ≡ colour_length (take (length xs - at) (drop at xs)) → (whole ≡ 0 → ⊥)
    → next ≡ whole - 1 → is_tame_after 0 (drop at xs) ≡ is_tame_after next (drop (at + 1) xs)
begun xs at whole next within is some less =
    let b = get_or xs at 0 in
    let r = drop (at + 1) xs in
    let c : colour_length (b ∷ r) ≡ whole = sym (is ∙ ap colour_length (rest_whole xs at ∙ cut xs at 0 within)) in
    ap (is_tame_after 0) (cut xs at 0 within)
    ∙ ap (λ k. cond (k == 0) (is_plain b && is_tame_after 0 r) (is_tame_after (k - 1) r)) c
    ∙ ap (λ t. cond t (is_plain b && is_tame_after 0 r) (is_tame_after (whole - 1) r)) (ne_eqb whole 0 some)
    ∙ ap (λ k. is_tame_after k r) (sym less)

-- A plain byte is passed.
pub plain_passed : (xs : List ℕ) (at d whole next : ℕ) → at < length xs
    → whole ≡ colour_length (take (length xs - at) (drop at xs)) → whole ≡ 0
    → (answer : Bool) → answer ≡ is_plain (get_or xs at d) → answer ≡ true → next ≡ whole - 1
    → is_tame_after 0 (drop at xs) ≡ is_tame_after next (drop (at + 1) xs)
plain_passed xs at d whole next within is none answer plain sure less =
    let b = get_or xs at d in
    let r = drop (at + 1) xs in
    let c : colour_length (b ∷ r) ≡ 0 =
    sym (sym none ∙ is ∙ ap colour_length (rest_whole xs at ∙ cut xs at d within)) in
    ap (is_tame_after 0) (cut xs at d within)
    ∙ ap (λ k. cond (k == 0) (is_plain b && is_tame_after 0 r) (is_tame_after (k - 1) r)) c
    ∙ ap (λ t. t && is_tame_after 0 r) (sym plain ∙ sure)
    ∙ ap (λ k. is_tame_after k r) (sym (less ∙ ap (λ k. k - 1) none))

-- The tamed bytes are tame.
pub tamed_tame : (bytes : List ℕ) → is_tame (tamed bytes) ≡ true
tamed_tame bytes = by (is_tame bytes) refl
  where
    by : (b : Bool) → is_tame bytes ≡ b → is_tame (if b then bytes else []) ≡ true
    by true e = e
    by false e = refl
