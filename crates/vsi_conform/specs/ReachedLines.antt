-- The lines and the JSON of released outputs, and where they come in an answer.
use Rattle.std.specs.Prelude.{◌≡◌, ℕ, zero, suc, ◌+◌, ◌-◌, Bool, true, false, not, ◌&&◌, if◌then◌else◌, List, [], ◌∷◌, ◌++◌, map, codes, length, take}
use Rattle.std.specs.List.{flat_map}
use Rattle.vsi_conform.specs.Reaching.{Released, are_within, is_none}

-- ---- lines.

-- Names, each after a blank.
abbrev pub spaced : List (List ℕ) → List ℕ
spaced names = flat_map (λ name. codes " " ++ name) names

-- A text and names, each after a blank, or another text if there are no names.
abbrev pub names_text : List ℕ → List ℕ → List (List ℕ) → List ℕ
names_text before none names = if is_none names then none else before ++ spaced names

-- The names of the globals that reach an output.
abbrev pub sources_text : List (List ℕ) → List ℕ
sources_text names = names_text [] (codes " (nothing)") names

-- The names of those that aren't allowed, if there are any.
abbrev pub beyond_text : List (List ℕ) → List ℕ
beyond_text names = names_text (codes ", unexpected") [] names

-- `CLASS releases NAME from NAME ..`, and then `, unexpected NAME ..` if some aren't allowed.
abbrev pub released_line : Released → List ℕ
released_line r =
    r.class ++ codes " releases " ++ r.output ++ codes " from" ++ sources_text r.sources ++ beyond_text r.beyond
    ++ codes "\n"

-- The lines of released outputs.
abbrev pub released_lines : List Released → List ℕ
released_lines rs = flat_map released_line rs
