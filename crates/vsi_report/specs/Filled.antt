-- Markup with holes, and the texts that fill them.
use Rattle.std.specs.Prelude.{ℕ, zero, suc, ◌-◌, ◌==◌, if◌then◌else◌, Bool, true, false, List, [], ◌∷◌, ◌++◌, Option, Some, None, codes, decimal}

-- The text at a place; past the last one it is empty.
abbrev pub text_at : List (List ℕ) → ℕ → List ℕ
text_at [] n = []
text_at (t ∷ ts) zero = t
text_at (t ∷ ts) (suc n) = text_at ts n

-- The rest of markup, in which a percent sign and a digit are a hole for the text with that number; its first byte is
-- such a digit if a hole has begun.
abbrev pub filled : List (List ℕ) → Bool → List ℕ → List ℕ
filled ts hole [] = []
filled ts true (b ∷ rest) = text_at ts (b - 48) ++ filled ts false rest
filled ts false (b ∷ rest) = if b == 37 then filled ts true rest else b ∷ filled ts false rest

-- The markup with its holes filled: `%0` is a hole for the first text, `%1` for the second, and so on.
abbrev pub fill : List ℕ → List (List ℕ) → List ℕ
fill markup ts = filled ts false markup

-- A number and a blank, if there is one.
abbrev pub prefix : Option ℕ → List ℕ
prefix None = []
prefix (Some n) = decimal n ++ codes " "
