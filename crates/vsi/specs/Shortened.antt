-- The lines of an explanation that are written.
use Rattle.std.specs.Prelude.{ℕ, ◌≡◌, ◌⊎◌, ◌++◌, List, [], Option, Some, None, codes, decimal}
use Rattle.vsi_syntax.specs.Lines.{breaks}

-- The line that names the page of a refusal, if it has a number.
abbrev pub page_line : Option ℕ → List ℕ
page_line None = []
page_line (Some code) = codes "More: vsi explain " ++ decimal code ++ codes "\n"

-- The line that says how many lines are left out.
abbrev pub rest_line : ℕ → List ℕ
rest_line n = codes "Lines left out here: " ++ decimal n ++ codes "; `--all` writes all.\n"

-- The text has all lines and the page, or a line that says how many lines between the first and the last are left out.
abbrev pub Shows : List ℕ → Option ℕ → List ℕ → Type 0
Shows lines code text =
    (text ≡ lines ++ page_line code)
    ⊎ ((head rest tail : List ℕ) × (lines ≡ (head ++ rest) ++ tail)
    × (text ≡ ((head ++ rest_line (breaks rest)) ++ tail) ++ page_line code))
