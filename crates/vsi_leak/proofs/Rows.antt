-- The rows of a leak's text, one by one.
use Rattle.std.proofs.Common.{◌≡◌, ℕ, zero, suc, ◌+◌, ℤ, List, [], ◌∷◌, ◌++◌, Option, Some, drop, slice_get, length, max, ap, sym, ◌∙◌, arith}
use Rattle.std.specs.Global.{Vec}
use Rattle.std.proofs.lemmas.Option.{same_Some}
use Rattle.vsi_image.specs.Fields.{globals}
use Rattle.vsi_lattice.specs.Order.{Lattice}
use Rattle.vsi_lattice.specs.Known.{Known}
use Rattle.vsi_leak.specs.Texts.{is_shown, shown_row, word_rows, shown_cell, left_cells, longest}

-- A list from a position on begins with the item at it.
drop_at : {X : Type 0} (xs : List X) (i : ℕ) (x : X) → slice_get xs i ≡ Some x → drop i xs ≡ x ∷ drop (suc i) xs
drop_at [] i x h = absurd cc
drop_at (y ∷ ys) zero x h = ap (λ z. z ∷ ys) (same_Some y x h)
drop_at (y ∷ ys) (suc i) x h = drop_at ys i x h

-- The rows from a position on are its row and the later ones.
pub rows_step : (known : Known) (L : Lattice) (to : Option ℕ) (width : ℕ) (gs : List (Vec ℕ × Vec ℕ))
    (ws vs : List ℤ) (i : ℕ) (g : Vec ℕ × Vec ℕ) (w v : ℤ) → slice_get gs i ≡ Some g → slice_get ws i ≡ Some w →
    slice_get vs i ≡ Some v →
    word_rows known L to width (globals (drop i gs)) (drop i ws) (drop i vs)
    ≡ shown_row (is_shown known L to g.1.items) width g.0.items w v
    ++ word_rows known L to width (globals (drop (i + 1) gs)) (drop (i + 1) ws) (drop (i + 1) vs)
rows_step known L to width gs ws vs i g w v hg hw hv =
    let next : suc i ≡ i + 1 = omega arith in
    ap (λ xs. word_rows known L to width (globals xs) (drop i ws) (drop i vs)) (drop_at gs i g hg)
    ∙ ap (λ xs. word_rows known L to width (globals (g ∷ drop (suc i) gs)) xs (drop i vs)) (drop_at ws i w hw)
    ∙ ap (λ xs. word_rows known L to width (globals (g ∷ drop (suc i) gs)) (w ∷ drop (suc i) ws) xs)
    (drop_at vs i v hv)
    ∙ ap (λ n. shown_row (is_shown known L to g.1.items) width g.0.items w v
    ++ word_rows known L to width (globals (drop n gs)) (drop n ws) (drop n vs)) next

-- The left cells from a position on are the cell of its row and the later ones.
pub cells_step : (known : Known) (L : Lattice) (to : Option ℕ) (gs : List (Vec ℕ × Vec ℕ)) (ws vs : List ℤ) (i : ℕ)
    (g : Vec ℕ × Vec ℕ) (w v : ℤ) → slice_get gs i ≡ Some g → slice_get ws i ≡ Some w → slice_get vs i ≡ Some v →
    left_cells known L to (globals (drop i gs)) (drop i ws) (drop i vs)
    ≡ shown_cell (is_shown known L to g.1.items) g.0.items w
    ++ left_cells known L to (globals (drop (i + 1) gs)) (drop (i + 1) ws) (drop (i + 1) vs)
cells_step known L to gs ws vs i g w v hg hw hv =
    let next : suc i ≡ i + 1 = omega arith in
    ap (λ xs. left_cells known L to (globals xs) (drop i ws) (drop i vs)) (drop_at gs i g hg)
    ∙ ap (λ xs. left_cells known L to (globals (g ∷ drop (suc i) gs)) xs (drop i vs)) (drop_at ws i w hw)
    ∙ ap (λ xs. left_cells known L to (globals (g ∷ drop (suc i) gs)) (w ∷ drop (suc i) ws) xs) (drop_at vs i v hv)
    ∙ ap (λ n. shown_cell (is_shown known L to g.1.items) g.0.items w
    ++ left_cells known L to (globals (drop n gs)) (drop n ws) (drop n vs)) next

-- The longest of two lists of cells is the longer of their longest.
longest_append : (xs ys : List (List ℕ)) → longest (xs ++ ys) ≡ max (longest xs) (longest ys)
longest_append [] ys = omega arith
longest_append (x ∷ xs) ys =
    let rest = longest_append xs ys in
    let around : max (length x) (max (longest xs) (longest ys)) ≡ max (max (length x) (longest xs)) (longest ys) =
    omega arith in
    ap (max (length x)) rest ∙ around

-- A width widened by a cell, and then by the remaining cells, is the greatest of all of them.
pub widened : (width width' whole : ℕ) (cell rest cells : List (List ℕ)) → width' ≡ max width (longest cell) →
    cells ≡ cell ++ rest → max width (longest cells) ≡ whole → max width' (longest rest) ≡ whole
widened width width' whole cell rest cells here parts all =
    let both : longest cells ≡ max (longest cell) (longest rest) = ap longest parts ∙ longest_append cell rest in
    let around : max (max width (longest cell)) (longest rest) ≡ max width (max (longest cell) (longest rest)) =
    omega arith in
    ap (λ n. max n (longest rest)) here ∙ around ∙ ap (max width) (sym both) ∙ all
