-- Source texts: the tokens of a text, the tree that writes them, and the tree's commands over locations.
use Rattle.std.specs.Prelude.{◌≡◌, ℕ, ◌≤◌, List, length, map}
use Rattle.vsi_syntax.specs.Limits.{max_text_length}
use Rattle.vsi_syntax.specs.Cut.{Piece, IsCut}
use Rattle.vsi_syntax.specs.Tree.{Whole, IsProgram, write_program}
use Rattle.vsi_syntax.specs.Spelling.{word_at}
use Rattle.vsi_syntax.specs.Canon.{canon}

-- The text is within its limit, and a levelled tree of depth at most 200 writes the tokens of its cut.
pub record Reads (text : List ℕ) (tree : Whole) : Type 0 where
  pub short : length text ≤ max_text_length
  pub tokens : List Piece
  pub cut : IsCut text tokens
  pub program : IsProgram tree.body
  pub written : write_program tree ≡ map word_at tokens

-- The canonical text of the tree that reads the text.
abbrev pub IsCanonicalText : List ℕ → List ℕ → Type 0
IsCanonicalText text out = (tree : Whole) × Reads text tree × (out ≡ canon tree)
