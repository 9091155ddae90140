-- A lattice in the language of Graphviz.
use Rattle.std.specs.Prelude.{◌≡◌, ◌==◌, ◌%◌, if◌then◌else◌, ℕ, List, [], ◌∷◌, ◌++◌, map, codes, length, slice_get, unwrap_or}
use Rattle.std.specs.List.{flat_map}
use Rattle.std.specs.Global.{Vec}
use Rattle.vsi_lattice.specs.declared.lattice.Lattice.{Lattice}
use Rattle.vsi_lattice.specs.LatticeView.{names, order}
use Rattle.vsi_types.specs.Security.{count_from}
use Rattle.vsi_report.specs.Covering.{HasJust, IsCoveringPair}
use Rattle.vsi_report.specs.Filled.{fill}

-- The texts of the code.
abbrev pub texts : List (Vec ℕ) → List (List ℕ)
texts vs = map (λ v. v.items) vs

-- The graph with this name and these lines: what is higher is drawn above.
abbrev pub graph : List ℕ → List ℕ → List ℕ
graph name lines =
    fill
    (codes "digraph %0 {\n  rankdir=BT;\n  ranksep=0.35;\n  node [shape=box, style=rounded, penwidth=2];\n"
    ++ codes "  edge [color=\"#57606a\", fontcolor=\"#57606a\", fontsize=11];\n%1}\n")
    (name ∷ lines ∷ [])

-- The colour of one of eight kinds of class.
abbrev pub kind_colour : ℕ → List ℕ
kind_colour n =
    if n == 0 then codes "#2e23a9" else if n == 1 then codes "#984a92" else if n == 2 then codes "#627039"
    else if n == 3 then codes "#5058de" else if n == 4 then codes "#490359" else if n == 5 then codes "#10370f"
    else if n == 6 then codes "#763b63" else codes "#1f1821"

-- The colour of a class.
abbrev pub colour : ℕ → List ℕ
colour c = kind_colour (c % 8)

-- The name of a class.
abbrev pub name_at : List (List ℕ) → ℕ → List ℕ
name_at names n = unwrap_or (slice_get names n) []

-- The line of a class.
abbrev pub node_line : List (List ℕ) → ℕ → List ℕ
node_line names c =
    fill (codes "  \"%0\" [color=\"%1\", fontcolor=\"%1\"];\n") (name_at names c ∷ colour c ∷ [])

-- The line of a pair of classes, the lower one first.
abbrev pub edge_line : List (List ℕ) → ℕ × ℕ → List ℕ
edge_line names p = fill (codes "  \"%0\" -> \"%1\";\n") (name_at names p.0 ∷ name_at names p.1 ∷ [])

-- The lines of these classes and pairs.
abbrev pub lattice_lines : List (List ℕ) → List (ℕ × ℕ) → List ℕ
lattice_lines names pairs =
    flat_map (node_line names) (count_from 0 (length names)) ++ flat_map (edge_line names) pairs

-- The lines are those of the lattice: its classes in order, and an edge for each covering pair and for no other.
pub record AreLatticeLines (l : Lattice) (lines : List ℕ) : Type 0 where
  pub pairs : List (ℕ × ℕ)
  pub covering : HasJust (IsCoveringPair (order l)) pairs
  pub are : lines ≡ lattice_lines (names l) pairs

-- The text is the graph of the lattice.
pub record IsLatticeGraph (l : Lattice) (text : List ℕ) : Type 0 where
  pub lines : List ℕ
  pub of_classes : AreLatticeLines l lines
  pub whole : text ≡ graph (codes "lattice") lines
