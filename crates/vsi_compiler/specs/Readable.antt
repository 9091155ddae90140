-- Which texts have a program, whatever its flows are.
use Rattle.std.specs.Prelude.{ℕ, List}
use Rattle.vsi_syntax.specs.Tree.{Whole}
use Rattle.vsi_lattice.specs.Known.{Known}
use Rattle.vsi_scope.specs.Language.{Command}
use Rattle.vsi_scope.specs.Resolving.{IsResolution}
use Rattle.vsi_compiler.specs.Source.{Reads}

-- A tree reads the text, and these commands over locations are its resolution.
pub record HasProgram (known : Known) (text : List ℕ) : Type 0 where
  pub tree : Whole
  pub commands : List Command
  pub reads : Reads text tree
  pub resolution : IsResolution known tree commands
