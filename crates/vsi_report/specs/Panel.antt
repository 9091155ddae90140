-- The tags of a source text in a page.
use Rattle.std.specs.Prelude.{ℕ, List, [], ◌∷◌, ◌++◌, codes, decimal}
use Rattle.vsi_report.specs.Escape.{escaped}

-- The beginning of a line with its number.
abbrev pub line_tag : ℕ → List ℕ
line_tag n = codes "<span class=\"line\" id=\"L" ++ (escaped (decimal n) ++ codes "\">")

-- The end of a line, and the beginning of the next one.
abbrev pub next_tag : ℕ → List ℕ
next_tag n = codes "</span>" ++ line_tag n

-- The beginning of an attribute and its value, which ends the value before it; an empty value has no attribute.
abbrev pub attribute : List ℕ → List ℕ → List ℕ
attribute begin [] = []
attribute begin (b ∷ bs) = begin ++ escaped (b ∷ bs)

-- The beginning of a token of a kind, with the label of its class and that of its step.
abbrev pub open_tag : List ℕ → List ℕ → List ℕ → List ℕ
open_tag kind class step =
    codes "<b class=\"" ++ (escaped kind ++ (attribute (codes "\" data-class=\"") class
    ++ (attribute (codes "\" data-step=\"") step ++ codes "\">")))

-- The end of a token.
abbrev pub close_tag : List ℕ
close_tag = codes "</b>"
