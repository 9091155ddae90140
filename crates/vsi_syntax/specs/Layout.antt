-- The layout of a text.
use Rattle.std.specs.Prelude.{◌≡◌, ◌⊎◌, ◌≤◌, ℕ, true, List, length, map}
use Rattle.vsi_syntax.specs.Limits.{max_text_length}
use Rattle.vsi_syntax.specs.Cut.{Piece, IsCut}
use Rattle.vsi_syntax.specs.Tree.{Whole, IsProgram, write_program}
use Rattle.vsi_syntax.specs.Spelling.{bare, word_at}
use Rattle.vsi_syntax.specs.Apart.{program_apart}
use Rattle.vsi_syntax.specs.Comments.{all_comments}
use Rattle.vsi_syntax.specs.Same.{is_same}
use Rattle.vsi_syntax.specs.Writing.{laid}

-- The text is within its limit and has these tokens, which this program writes.
pub record IsRead (text : List ℕ) (tokens : List Piece) (tree : Whole) : Type 0 where
  pub short : length text ≤ max_text_length
  pub cut : IsCut text tokens
  pub program : IsProgram tree.body
  pub written : write_program tree ≡ map word_at tokens

-- The text is within its limit and has tokens.
pub record HasTokens (text : List ℕ) : Type 0 where
  pub tokens : List Piece
  pub short : length text ≤ max_text_length
  pub cut : IsCut text tokens

-- The text is that of a program.
pub record HasProgram (text : List ℕ) : Type 0 where
  pub tokens : List Piece
  pub tree : Whole
  pub read : IsRead text tokens tree

-- Two texts have the same program but for positions, and the same comments between the same tokens.
pub record IsSameText (s t : List ℕ) : Type 0 where
  pub tokens : List Piece
  pub tree : Whole
  pub read : IsRead s tokens tree
  pub others : List Piece
  pub other : Whole
  pub other_read : IsRead t others other
  pub lexemes : map bare (map word_at others) ≡ map bare (map word_at tokens)
  pub program : program_apart other ≡ program_apart tree
  pub comments : all_comments t others ≡ all_comments s tokens

-- This is the layout of a text with these tokens, has the same tokens and comments, and is laid out as itself.
pub record IsGood (s : List ℕ) (tokens : List Piece) (t : List ℕ) : Type 0 where
  pub is : t ≡ laid s tokens
  pub short : length t ≤ max_text_length
  pub others : List Piece
  pub cut : IsCut t others
  pub same : is_same s tokens t others ≡ true
  pub again : laid t others ≡ t

-- The layout of a text with these tokens, or the text itself if that isn't good.
abbrev pub IsChosen : List ℕ → List Piece → List ℕ → Type 0
IsChosen s tokens t = IsGood s tokens t ⊎ ((IsGood s tokens (laid s tokens) → ⊥) × (t ≡ s))

-- The layout of a text: it has the same program and comments, and is what was chosen for the text's tokens.
pub record IsLayout (s t : List ℕ) : Type 0 where
  pub same : IsSameText s t
  pub tokens : List Piece
  pub cut : IsCut s tokens
  pub chosen : IsChosen s tokens t
