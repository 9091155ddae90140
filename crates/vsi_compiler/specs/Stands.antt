-- The resolved program of a text, as the compiler holds it.
use Rattle.std.specs.Prelude.{◌≡◌, ℕ, List}
use Rattle.vsi_syntax.specs.Tree.{Whole}
use Rattle.vsi_lattice.specs.Known.{Known}
use Rattle.vsi_scope.specs.Program.{Resolved}
use Rattle.vsi_scope.specs.Resolving.{Resolves}
use Rattle.vsi_compiler.specs.Source.{Reads}

-- The resolved program is the program of the only tree that reads the text.
pub record Stands (known : Known) (text : List ℕ) (r : Resolved) : Type 0 where
  pub tree : Whole
  pub reads : Reads text tree
  pub only : (other : Whole) → Reads text other → tree ≡ other
  pub resolves : Resolves known tree r
