-- The text of an image's code.
use Rattle.std.specs.Prelude.{◌≡◌, ℕ, List, map, length}
use Rattle.vsi_syntax.specs.Tree.{Declared, Whole, IsProgram}
use Rattle.vsi_syntax.specs.Canon.{canon}
use Rattle.vsi_image.specs.declared.instr.Image.{Image}
use Rattle.vsi_image.specs.Fields.{Global, globals}
use Rattle.vsi_scope.specs.Language.{Command}
use Rattle.vsi_code.specs.Layout.{whole_code}
use Rattle.vsi_audit.specs.Writing.{WritesAll}

-- The name and the class name that a declaration writes.
abbrev pub words : Declared → Global
words d = (d.name.text, d.class.text)

-- The tree declares the image's globals with their class names, in order, and its body writes commands whose code the
-- image has.
pub record IsWritten (im : Image) (commands : Command) (tree : Whole) : Type 0 where
  pub declares : map words tree.globals ≡ globals im.globals.items
  pub code : im.code.items ≡ whole_code (length im.globals.items) commands
  pub body : WritesAll (map (λ g. g.0) (globals im.globals.items)) commands tree.body

-- The text is the canonical text of a program, with a levelled tree of depth at most 200, that declares the image's
-- globals and writes commands of its code.
pub record IsSourceText (im : Image) (out : List ℕ) : Type 0 where
  pub commands : Command
  pub tree : Whole
  pub written : IsWritten im commands tree
  pub program : IsProgram tree.body
  pub canonical : out ≡ canon tree
