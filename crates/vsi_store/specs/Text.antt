-- The lines of a store.
use Rattle.std.specs.Prelude.{ℕ, ℤ, List, [], ◌∷◌, ◌++◌, codes}
use Rattle.std.specs.Fmt.{signed_decimal}
use Rattle.vsi_image.specs.Fields.{Global}

-- `name = number` and a line feed.
abbrev pub line_of : List ℕ → ℤ → List ℕ
line_of name word = name ++ codes " = " ++ signed_decimal word ++ 10 ∷ []

-- A line for each global, in order.
abbrev pub store_text_of : List Global → List ℤ → List ℕ
store_text_of [] words = []
store_text_of (g ∷ gs) [] = []
store_text_of (g ∷ gs) (w ∷ ws) = line_of g.0 w ++ store_text_of gs ws
