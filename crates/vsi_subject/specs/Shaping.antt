-- The output of `lattice`.
use Rattle.std.specs.Prelude.{ℕ, List}
use Rattle.std.specs.Borrow.{Bor}
use Rattle.std.specs.Global.{Vec}
use Rattle.vsi_lattice.specs.NamePlaces.{texts}
use Rattle.vsi_documents.specs.Shapes.{IsShapedText}

-- The text is the lattice file for the shape and the names in the arguments.
abbrev pub ShapedText : List (Bor (List ℕ)) → Vec ℕ → Type 0
ShapedText arguments text = IsShapedText (texts arguments) text.items
