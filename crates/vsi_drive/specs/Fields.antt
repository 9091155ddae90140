-- The fields of a line, and the number that a field spells.
use Rattle.std.specs.Prelude.{ℕ, ◌==◌, ℤ, pos, neg_ℤ, Bool, ◌&&◌, ◌||◌, nat_le, if◌then◌else◌, List, [], ◌∷◌, ◌++◌, Option, Some, None, option_map, codes}
use Rattle.vsi_syntax.specs.Words.{is_digit, every, begins_with, value_of}

-- A tab, a carriage return or a space.
abbrev pub is_blank : ℕ → Bool
is_blank b = (b == 9 || b == 13) || b == 32

-- A finished field before the later fields; an empty one is no field.
abbrev pub ended : List ℕ → List (List ℕ) → List (List ℕ)
ended [] fields = fields
ended (b ∷ bs) fields = (b ∷ bs) ∷ fields

-- The fields of these bytes after those of an unfinished field: blanks separate fields, and `=` is a field.
abbrev pub fields_behind : List ℕ → List ℕ → List (List ℕ)
fields_behind part [] = ended part []
fields_behind part (b ∷ bs) =
    if is_blank b then ended part (fields_behind [] bs) else
    if b == 61 then ended part (codes "=" ∷ fields_behind [] bs) else fields_behind (part ++ b ∷ []) bs

-- The fields of a line.
abbrev pub fields_of : List ℕ → List (List ℕ)
fields_of line = fields_behind [] line

-- The number that one or more digits spell, if it is at most the limit.
abbrev pub number_up_to : ℕ → List ℕ → Option ℕ
number_up_to limit ds =
    if (begins_with is_digit ds && every is_digit ds) && nat_le (value_of ds) limit then Some (value_of ds) else None

-- The word that a field spells: digits, after a `-` if it is below 0.
abbrev pub word_of : List ℕ → Option ℤ
word_of [] = None
word_of (b ∷ bs) =
    if b == 45 then option_map (λ n. neg_ℤ (pos n)) (number_up_to 9223372036854775808 bs)
    else option_map pos (number_up_to 9223372036854775807 (b ∷ bs))
