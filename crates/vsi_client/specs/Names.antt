-- Lists of names of which one is replaced, for the parts of a program.
use Rattle.std.specs.Prelude.{ℕ, zero, suc, List, Option, Some, None, slice_set}

-- The names with a new one at a place, if there is a place.
abbrev pub with_name : Option ℕ → List ℕ → List (List ℕ) → List (List ℕ)
with_name None name names = names
with_name (Some place) name names = slice_set names place name

-- The same place in the list without its first item.
abbrev pub after_first : Option ℕ → Option ℕ
after_first None = None
after_first (Some zero) = None
after_first (Some (suc place)) = Some place
