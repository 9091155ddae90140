-- The comments of a text, and where they are among its tokens.
use Rattle.std.specs.Prelude.{ℕ, ◌-◌, ◌==◌, not, List, [], ◌∷◌, Bool, true, false, drop, take, if◌then◌else◌}
use Rattle.vsi_syntax.specs.Cut.{Piece}

-- The comments in a gap between two tokens, each from its `#` on and with a line feed at its end.
abbrev pub comments : Bool → List ℕ → List ℕ
comments false [] = []
comments true [] = 10 ∷ []
comments true (b ∷ bs) = b ∷ comments (not (b == 10)) bs
comments false (b ∷ bs) = if b == 35 then b ∷ comments true bs else comments false bs

-- The part of a text from one position up to another.
abbrev pub part : List ℕ → ℕ → ℕ → List ℕ
part text from to = take (to - from) (drop from text)

-- The comments before each token and those after the last one, of the text from a position on.
abbrev pub comments_from : ℕ → List ℕ → List Piece → List (List ℕ)
comments_from at text [] = comments false (drop at text) ∷ []
comments_from at text (p ∷ ps) = comments false (part text at p.span.start) ∷ comments_from p.span.stop text ps

-- The comments before each token of a text and those after the last one.
abbrev pub all_comments : List ℕ → List Piece → List (List ℕ)
all_comments = comments_from 0
