-- Texts that are offered as replacements for a part of another text.
use Rattle.std.specs.Prelude.{◌≡◌, ℕ, ◌≤◌, List, [], ◌++◌, length, map, codes}
use Rattle.vsi_syntax.specs.Limits.{max_text_length}
use Rattle.vsi_syntax.specs.Cut.{Piece, IsCut}
use Rattle.vsi_syntax.specs.Tree.{Named, Tree, Assign, Body, Done, Then, Whole, IsProgram, write_program}
use Rattle.vsi_syntax.specs.Spelling.{word_at}

-- The tree is the tree of the text: it writes the tokens of its cut.
pub record IsTreeOf (text : List ℕ) (tree : Whole) : Type 0 where
  pub short : length text ≤ max_text_length
  pub tokens : List Piece
  pub cut : IsCut text tokens
  pub program : IsProgram tree.body
  pub written : write_program tree ≡ map word_at tokens

-- The text is a program.
abbrev pub IsProgramText : List ℕ → Type 0
IsProgramText text = (tree : Whole) × IsTreeOf text tree

-- The program that assigns a value to a name and does nothing else.
abbrev pub assigning : Named → Tree → Whole
assigning name value = record { globals = []; body = Then (Assign name value) Done }

-- The text is an expression: assigned to x, it is a program with that assignment alone.
abbrev pub IsExpression : List ℕ → Type 0
IsExpression text = (name : Named) × ((value : Tree) × IsTreeOf (codes "x := " ++ text) (assigning name value))
