-- A source text after reading, as its readers see it.
use Rattle.std.specs.Prelude.{◌≡◌, ℕ, List}
use Rattle.vsi_syntax.specs.Tree.{Whole}
use Rattle.vsi_lattice.specs.LatticeView.{class_named, order}
use Rattle.vsi_lattice.specs.declared.lattice.Lattice.{Lattice}
use Rattle.vsi_scope.specs.Program.{Resolved, IsResolved}
use Rattle.vsi_scope.specs.Resolving.{HasClassesBelow}
use Rattle.vsi_compiler.specs.Source.{Reads}
use Rattle.vsi_compiler.specs.Stands.{Stands}

-- A text, the lattice under which it was read, and its program over locations.
pub record Source : Type 0 where
  pub lattice : Lattice
  pub text : List ℕ
  pub resolved : Resolved

-- The source with these parts.
abbrev pub source_of : Lattice → List ℕ → Resolved → Source
source_of l text r = record { lattice = l; text = text; resolved = r }

-- The program is the program of the text, within the limits, and its classes are classes of the lattice.
pub record IsSource (s : Source) : Type 0 where
  pub stands : Stands (class_named s.lattice) s.text s.resolved
  pub kept : IsResolved s.resolved
  pub classes : HasClassesBelow (order s.lattice).count s.resolved

-- No other tree reads the text.
abbrev pub IsOnlyTree : List ℕ → Whole → Type 0
IsOnlyTree text tree = (other : Whole) → Reads text other → tree ≡ other
