-- Two runs of an image side by side, as a class sees them.
use Rattle.std.specs.Prelude.{◌≡◌, ℕ, ◌-◌, ◌≤◌, ℤ, List, [], ◌∷◌, ◌++◌, length, Bool, true, false, ◌&&◌, if◌then◌else◌, Option, Some, option_map, codes, bytes_eq, slice_get}
use Rattle.std.specs.Ordering.{int_eq}
use Rattle.vsi_lattice.specs.Order.{Lattice}
use Rattle.vsi_lattice.specs.LatticeView.{names, order, class_named}
use Rattle.vsi_lattice.specs.declared.lattice.Lattice as named
use Rattle.vsi_image.specs.declared.instr.Image.{Image}
use Rattle.vsi_image.specs.Fields.{Global, globals}
use Rattle.vsi_image.specs.Meaning.{State}
use Rattle.vsi_machine.specs.Cells.{word_cell, halted_cell}
use Rattle.vsi_machine.specs.Runs.{HaltsWith, run_of}
use Rattle.vsi_lattice.specs.Known.{Known}
use Rattle.vsi_store.specs.View.{is_seen}
use Rattle.vsi_store.specs.declared.comparing.RunEnding.{RunEnding}
use Rattle.vsi_store.specs.declared.comparing.RunEnding.TheVariants.{Halted, OutOfBudget}
use Rattle.vsi_store.specs.declared.comparing.Comparison.{Comparison}

-- Whether the run from a store has halted within this many instructions.
abbrev pub halted_within : Image → List ℤ → ℕ → Option Bool
halted_within image m n = option_map (λ s. s.halted) (run_of image m n)

-- The reported ending of a run within a budget is true: it halts with these words within so many instructions and not
-- within one fewer, or hasn't halted within the budget.
abbrev pub EndsSo : Image → List ℤ → ℕ → RunEnding → Type 0
EndsSo image m budget (Halted n words) =
    (n ≤ budget) × HaltsWith image m n words.items × (halted_within image m (n - 1) ≡ Some false)
EndsSo image m budget OutOfBudget = halted_within image m budget ≡ Some false

-- A run that halts has this many words.
abbrev pub IsOfLength : ℕ → RunEnding → Type 0
IsOfLength count (Halted n words) = length words.items ≡ count
IsOfLength count OutOfBudget = Unit {0}

-- A class sees no difference between two words of a global.
abbrev pub alike : Known → Lattice → ℕ → Global → ℤ → ℤ → Bool
alike known L a g w v = if is_seen known L a g.1 then int_eq w v else true

-- A class sees no difference between two stores in any of these globals.
abbrev pub agree_in : Known → Lattice → ℕ → List Global → List ℤ → List ℤ → Bool
agree_in known L a [] ws vs = true
agree_in known L a (g ∷ gs) [] vs = true
agree_in known L a (g ∷ gs) (w ∷ ws) [] = true
agree_in known L a (g ∷ gs) (w ∷ ws) (v ∷ vs) = alike known L a g w v && agree_in known L a gs ws vs

-- A class sees the same after two runs: both halt and it sees no difference between their stores, or neither halts.
abbrev pub same_ends : Known → Lattice → ℕ → List Global → RunEnding → RunEnding → Bool
same_ends known L a gs (Halted n ws) (Halted n' vs) = agree_in known L a gs ws.items vs.items
same_ends known L a gs (Halted n ws) OutOfBudget = false
same_ends known L a gs OutOfBudget (Halted n' vs) = false
same_ends known L a gs OutOfBudget OutOfBudget = true

-- A row of one text that both sides share, or of both sides after a star.
abbrev pub row : List ℕ → List ℕ → List ℕ
row left right =
    if bytes_eq left right then codes "  " ++ left ++ codes "\n"
    else codes "* " ++ left ++ codes " | " ++ right ++ codes "\n"

-- The row of a global that the class sees, and nothing for any other.
abbrev pub global_row : Known → Lattice → ℕ → Global → ℤ → ℤ → List ℕ
global_row known L a g w v = if is_seen known L a g.1 then row (word_cell g.0 w) (word_cell g.0 v) else []

-- A row for each global that the class sees, in order.
abbrev pub rows : Known → Lattice → ℕ → List Global → List ℤ → List ℤ → List ℕ
rows known L a [] ws vs = []
rows known L a (g ∷ gs) [] vs = []
rows known L a (g ∷ gs) (w ∷ ws) [] = []
rows known L a (g ∷ gs) (w ∷ ws) (v ∷ vs) = global_row known L a g w v ++ rows known L a gs ws vs

-- The rows of the stores in which both runs halt, as the class sees them.
abbrev pub rows_behind : Known → Lattice → ℕ → List Global → RunEnding → RunEnding → List ℕ
rows_behind known L a gs (Halted n ws) (Halted n' vs) = rows known L a gs ws.items vs.items
rows_behind known L a gs (Halted n ws) OutOfBudget = []
rows_behind known L a gs OutOfBudget e = []

-- The number of instructions after which a run halts, or that it is out of budget.
abbrev pub end_cell : RunEnding → List ℕ
end_cell (Halted n words) = halted_cell n
end_cell OutOfBudget = codes "out of budget"

-- The view of this class before the runs and after them, and how they end.
abbrev pub comparison_text_of : Known → Lattice → List ℕ → ℕ → List Global → List ℤ → List ℤ → RunEnding →
    RunEnding → List ℕ
comparison_text_of known L name a gs m m' e e' =
    name ++ codes " sees before\n" ++ rows known L a gs m m'
    ++ name ++ codes " sees after\n" ++ rows_behind known L a gs e e' ++ row (end_cell e) (end_cell e')

-- The report of an image's runs from two stores, within a budget, is the class's view of them.
pub record Compares (l : named.Lattice) (a : ℕ) (image : Image) (m m' : List ℤ) (budget : ℕ)
    (c : Comparison) : Type 0 where
  pub name : List ℕ
  pub named : slice_get (names l) a ≡ Some name
  pub first : EndsSo image m budget c.first
  pub second : EndsSo image m' budget c.second
  pub same : c.is_same ≡ same_ends (class_named l) (order l) a (globals image.globals.items) c.first c.second
  pub text : c.text.items
      ≡ comparison_text_of (class_named l) (order l) name a (globals image.globals.items) m m' c.first c.second
