-- The text of a leak: both runs side by side, a row for each word.
use Rattle.std.specs.Prelude.{◌≡◌, ℕ, ◌-◌, ℤ, List, [], ◌∷◌, ◌++◌, length, replicate, Bool, true, if◌then◌else◌, max, Option, Some, None, codes, bytes_eq, slice_get}
use Rattle.vsi_image.specs.Fields.{Global}
use Rattle.vsi_lattice.specs.Order.{Lattice}
use Rattle.vsi_lattice.specs.LatticeView.{names, order, class_named}
use Rattle.vsi_lattice.specs.declared.lattice.Lattice as named
use Rattle.vsi_scope.specs.Meaning.{Store}
use Rattle.vsi_lattice.specs.Known.{Known}
use Rattle.vsi_machine.specs.Cells.{word_cell, halted_cell}
use Rattle.vsi_store.specs.View.{is_seen}
use Rattle.vsi_store.specs.declared.comparing.RunEnding.{RunEnding}
use Rattle.vsi_store.specs.declared.comparing.RunEnding.TheVariants.{Halted, OutOfBudget}
use Rattle.vsi_leak.specs.declared.check.Leak.{Leak}

-- A cell filled up with spaces to the width.
abbrev pub padded : ℕ → List ℕ → List ℕ
padded width cell = cell ++ replicate (width - length cell) 32

-- A star before a row whose cells differ.
abbrev pub mark : List ℕ → List ℕ → List ℕ
mark left right = if bytes_eq left right then codes "  " else codes "* "

-- A row of two cells.
abbrev pub row : ℕ → List ℕ → List ℕ → List ℕ
row width left right = mark left right ++ padded width left ++ codes "  " ++ right ++ 10 ∷ []

-- Whether a global is shown: those that a class sees or, without a class, all.
abbrev pub is_shown : Known → Lattice → Option ℕ → List ℕ → Bool
is_shown known L None name = true
is_shown known L (Some a) name = is_seen known L a name

-- The row of a global, if it is shown.
abbrev pub shown_row : Bool → ℕ → List ℕ → ℤ → ℤ → List ℕ
shown_row shown width name w v = if shown then row width (word_cell name w) (word_cell name v) else []

-- A row for each global that is shown, in order.
abbrev pub word_rows : Known → Lattice → Option ℕ → ℕ → List Global → Store → Store → List ℕ
word_rows known L to width [] ws vs = []
word_rows known L to width (g ∷ gs) [] vs = []
word_rows known L to width (g ∷ gs) (w ∷ ws) [] = []
word_rows known L to width (g ∷ gs) (w ∷ ws) (v ∷ vs) =
    shown_row (is_shown known L to g.1) width g.0 w v ++ word_rows known L to width gs ws vs

-- The left cell of a row, if it is shown.
abbrev pub shown_cell : Bool → List ℕ → ℤ → List (List ℕ)
shown_cell shown name w = if shown then word_cell name w ∷ [] else []

-- The left cells of those rows, in order.
abbrev pub left_cells : Known → Lattice → Option ℕ → List Global → Store → Store → List (List ℕ)
left_cells known L to [] ws vs = []
left_cells known L to (g ∷ gs) [] vs = []
left_cells known L to (g ∷ gs) (w ∷ ws) [] = []
left_cells known L to (g ∷ gs) (w ∷ ws) (v ∷ vs) =
    shown_cell (is_shown known L to g.1) g.0 w ++ left_cells known L to gs ws vs

-- The length of the longest cell.
abbrev pub longest : List (List ℕ) → ℕ
longest [] = 0
longest (cell ∷ cells) = max (length cell) (longest cells)

-- The number of instructions after which a run halts, or that it is out of budget.
abbrev pub end_cell : RunEnding → List ℕ
end_cell (Halted n words) = halted_cell n
end_cell OutOfBudget = codes "out of budget"

-- The rows that the class sees at the ends of both runs, if both halt.
abbrev pub seen_rows : Known → Lattice → ℕ → ℕ → List Global → RunEnding → RunEnding → List ℕ
seen_rows known L a width gs (Halted n ws) (Halted n' vs) = word_rows known L (Some a) width gs ws.items vs.items
seen_rows known L a width gs (Halted n ws) OutOfBudget = []
seen_rows known L a width gs OutOfBudget e = []

-- The left cells that the class sees, if both runs halt.
abbrev pub seen_cells : Known → Lattice → ℕ → List Global → RunEnding → RunEnding → List (List ℕ)
seen_cells known L a gs (Halted n ws) (Halted n' vs) = left_cells known L (Some a) gs ws.items vs.items
seen_cells known L a gs (Halted n ws) OutOfBudget = []
seen_cells known L a gs OutOfBudget e = []

-- The length of the longest left cell of a leak's text.
abbrev pub left_width : Known → Lattice → List Global → Leak → ℕ
left_width known L gs leak =
    max (max (length (end_cell leak.first.ending))
    (longest (left_cells known L None gs leak.first.store.items leak.second.store.items)))
    (longest (seen_cells known L leak.class gs leak.first.ending leak.second.ending))

-- The whole text: the class, both stores at the start, and the words that the class sees after both runs.
abbrev pub leak_text_of : Known → Lattice → List ℕ → ℕ → List Global → Leak → List ℕ
leak_text_of known L name width gs leak =
    codes "leak at " ++ name ++ 10 ∷ []
    ++ word_rows known L None width gs leak.first.store.items leak.second.store.items
    ++ name ++ codes " sees\n"
    ++ seen_rows known L leak.class width gs leak.first.ending leak.second.ending
    ++ row width (end_cell leak.first.ending) (end_cell leak.second.ending)

-- The text of a leak under a lattice with names, its left side as wide as its longest left cell.
abbrev pub IsLeakText : named.Lattice → List Global → Leak → List ℕ → Type 0
IsLeakText l gs leak text =
    let known = class_named l in
    let L = order l in
    (name : List ℕ) × (slice_get (names l) leak.class ≡ Some name)
    × (text ≡ leak_text_of known L name (left_width known L gs leak) gs leak)
