-- Which names the functions may have.
use Rattle.std.specs.Prelude.{ℕ, Bool, true, false, ◌&&◌, ◌||◌, not, nat_le, ◌==◌, List, [], ◌∷◌, bytes_eq}
use Rattle.std.specs.Borrow.{Bor}
use Rattle.std.specs.List.{list_any}
use Rattle.vsi_emit.specs.declared.names.TheConstants.{KEYWORDS}

-- `0` to `9`.
abbrev pub is_digit : ℕ → Bool
is_digit b = nat_le 48 b && nat_le b 57

-- `A` to `Z` or `a` to `z`.
abbrev pub is_letter : ℕ → Bool
is_letter b = (nat_le 65 b && nat_le b 90) || (nat_le 97 b && nat_le b 122)

-- A name is made of letters, digits and underscores.
abbrev pub is_name_byte : ℕ → Bool
is_name_byte b = (is_letter b || is_digit b) || b == 95

-- Each byte is one of those.
abbrev pub are_name_bytes : List ℕ → Bool
are_name_bytes [] = true
are_name_bytes (b ∷ bs) = is_name_byte b && are_name_bytes bs

-- The first byte is a letter.
abbrev pub begins_with_letter : List ℕ → Bool
begins_with_letter [] = false
begins_with_letter (b ∷ bs) = is_letter b

-- The name is one of these words.
abbrev pub is_any : List (Bor (List ℕ)) → List ℕ → Bool
is_any words name = list_any (λ word. bytes_eq word.now name) words

-- It is one of the keywords of C and C++ that `src/names.rt` lists.
unfoldable pub is_keyword : List ℕ → Bool
is_keyword name = list_any (λ keyword. bytes_eq keyword.now name) KEYWORDS

-- Letters, digits and underscores, of which the first is a letter, and no keyword of C or C++.
abbrev pub is_function_name : List ℕ → Bool
is_function_name name = (begins_with_letter name && are_name_bytes name) && not (is_keyword name)
