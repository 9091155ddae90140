-- The places in which a text differs from its layout.
use Rattle.std.specs.Prelude.{◌≡◌, ◌≤◌, ℕ, suc, ◌+◌, ◌==◌, bytes_eq, List, [], ◌∷◌, ◌++◌, codes, decimal, drop, take, length, if◌then◌else◌}
use Rattle.vsi_syntax.specs.Cut.{Piece, IsCut}
use Rattle.vsi_syntax.specs.Lines.{breaks, last_line, place_text}
use Rattle.vsi_syntax.specs.declared.numbers.Spot.{Spot}
use Rattle.vsi_syntax.specs.Comments.{part}

-- The number of bytes with which both texts begin.
abbrev pub common : List ℕ → List ℕ → ℕ
common [] ys = 0
common (x ∷ xs) [] = 0
common (x ∷ xs) (y ∷ ys) = if x == y then suc (common xs ys) else 0

-- Where two gaps begin to differ, if they do; the first of them is at this position of its text.
abbrev pub gap_change : ℕ → List ℕ → List ℕ → List ℕ
gap_change at gap other = if bytes_eq gap other then [] else (at + common gap other) ∷ []

-- The position of a token if it is spelled otherwise than another one.
abbrev pub token_change : Piece → Piece → List ℕ
token_change p q = if bytes_eq p.text q.text then [] else p.span.start ∷ []

-- The positions at which a text begins to differ from another one between two tokens or in one, from these positions on.
abbrev pub changes_from : ℕ → List ℕ → List Piece → ℕ → List ℕ → List Piece → List ℕ
changes_from i s [] j t [] = gap_change i (drop i s) (drop j t)
changes_from i s [] j t (q ∷ qs) = i ∷ []
changes_from i s (p ∷ ps) j t [] = i ∷ []
changes_from i s (p ∷ ps) j t (q ∷ qs) =
    gap_change i (part s i p.span.start) (part t j q.span.start)
    ++ (token_change p q ++ changes_from p.span.stop s ps q.span.stop t qs)

-- The positions at which a text with these tokens begins to differ from another one.
abbrev pub changes : List ℕ → List Piece → List ℕ → List Piece → List ℕ
changes s ps t qs = changes_from 0 s ps 0 t qs

-- The line of a position, counted from 1.
abbrev pub line_at : List ℕ → ℕ → ℕ
line_at text at = 1 + breaks (take at text)

-- The line about a position, unless this line of the text has one.
abbrev pub change_line : ℕ → ℕ → List ℕ → List ℕ
change_line line last place = if line == last then [] else place ++ codes " differs\n"

-- The lines about these positions: one for each line of the text, with its first position.
abbrev pub change_lines : List ℕ → ℕ → List ℕ → List ℕ
change_lines text last [] = []
change_lines text last (at ∷ more) =
    change_line (line_at text at) last (place_text text at) ++ change_lines text (line_at text at) more

-- The lines about the places in which a text differs from another one.
pub record IsChangeText (s t lines : List ℕ) : Type 0 where
  pub tokens : List Piece
  pub cut : IsCut s tokens
  pub others : List Piece
  pub other_cut : IsCut t others
  pub are : lines ≡ change_lines s 0 (changes s tokens t others)

-- The line about a spot.
abbrev pub spot_line : Spot → List ℕ
spot_line spot = decimal spot.line ++ codes ":" ++ decimal spot.column ++ codes " differs\n"

-- A position with its line and its column.
pub record IsSpot (text : List ℕ) (spot : Spot) : Type 0 where
  pub line_is : spot.line ≡ 1 + breaks (take spot.at text)
  pub column_is : spot.column ≡ 1 + length (last_line (take spot.at text))
  pub line_small : spot.line ≤ 1 + spot.at
  pub column_small : spot.column ≤ 1 + spot.at
  pub within : spot.at ≤ length text
