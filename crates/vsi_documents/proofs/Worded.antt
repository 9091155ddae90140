-- Objects for globals come one by one.
use Rattle.std.proofs.Common.{◌≡◌, ℕ, zero, suc, ◌+◌, ℤ, List, [], ◌∷◌, ◌++◌, Option, Some, drop, slice_get, ap, ◌∙◌, arith}
use Rattle.std.specs.Global.{Vec}
use Rattle.std.proofs.lemmas.Option.{same_Some}
use Rattle.vsi_image.specs.Fields.{globals}
use Rattle.vsi_lattice.specs.Known.{Known}
use Rattle.vsi_lattice.specs.Order.{Lattice}
use Rattle.vsi_leak.specs.Texts.{is_shown}
use Rattle.vsi_documents.specs.Words.{pair_objects, shown_pair}

-- A list from a position on begins with the item at it.
drop_at : {X : Type 0} (xs : List X) (i : ℕ) (x : X) → slice_get xs i ≡ Some x → drop i xs ≡ x ∷ drop (suc i) xs
drop_at [] i x h = absurd cc
drop_at (y ∷ ys) zero x h = ap (λ z. z ∷ ys) (same_Some y x h)
drop_at (y ∷ ys) (suc i) x h = drop_at ys i x h

-- The objects from a position on are that of its global, if it is shown, and the later ones.
pub pairs_step : (known : Known) (L : Lattice) (to : Option ℕ) (gs : List (Vec ℕ × Vec ℕ)) (ws vs : List ℤ) (i : ℕ)
    (g : Vec ℕ × Vec ℕ) (w v : ℤ) → slice_get gs i ≡ Some g → slice_get ws i ≡ Some w → slice_get vs i ≡ Some v →
    pair_objects known L to (globals (drop i gs)) (drop i ws) (drop i vs)
    ≡ shown_pair (is_shown known L to g.1.items) g.0.items w v
    ++ pair_objects known L to (globals (drop (i + 1) gs)) (drop (i + 1) ws) (drop (i + 1) vs)
pairs_step known L to gs ws vs i g w v hg hw hv =
    let next : suc i ≡ i + 1 = omega arith in
    ap (λ xs. pair_objects known L to (globals xs) (drop i ws) (drop i vs)) (drop_at gs i g hg)
    ∙ ap (λ xs. pair_objects known L to (globals (g ∷ drop (suc i) gs)) xs (drop i vs)) (drop_at ws i w hw)
    ∙ ap (λ xs. pair_objects known L to (globals (g ∷ drop (suc i) gs)) (w ∷ drop (suc i) ws) xs) (drop_at vs i v hv)
    ∙ ap (λ n. shown_pair (is_shown known L to g.1.items) g.0.items w v
    ++ pair_objects known L to (globals (drop n gs)) (drop n ws) (drop n vs)) next
