-- The names of programs.
use Rattle.std.specs.Prelude.{◌≡◌, ◌≢◌, ℕ, ◌==◌, nat_le, Bool, false, ◌&&◌, ◌||◌, not, List, [], ◌∷◌, length, codes, if◌then◌else◌, map, string_bytes, bytes_eq}
use Rattle.std.specs.List.{list_all, All, AllPairs}
use Rattle.std.specs.Char.{is_ascii_alphanumeric, is_ascii_alphabetic}
use Rattle.vsi_project.specs.declared.reader.Program.{Program}

-- A byte that may follow the first of a name: a letter, a digit, `_` or `-`.
abbrev pub is_name_byte : ℕ → Bool
is_name_byte b = is_ascii_alphanumeric b || b == 95 || b == 45

-- The name of a program: a letter, then at most 63 letters, digits, `_` and `-`, but not `index`.
abbrev pub is_program_name : List ℕ → Bool
is_program_name [] = false
is_program_name (b ∷ bs) =
    list_all is_name_byte bs && is_ascii_alphabetic b && nat_le (length bs) 63
    && not (bytes_eq (b ∷ bs) (codes "index"))

-- A byte of a name in C, where `_` stands for `-`.
abbrev pub byte_in_c : ℕ → ℕ
byte_in_c b = if b == 45 then 95 else b

-- A name in C.
abbrev pub in_c : List ℕ → List ℕ
in_c name = map byte_in_c name

-- The name of a program in C.
abbrev pub c_name : Program → List ℕ
c_name p = in_c (string_bytes p.name)

-- No program has this name in C.
abbrev pub AreOthers : List ℕ → List Program → Type 0
AreOthers name programs = All (λ p. c_name p ≢ name) programs

-- No two programs have one name in C.
abbrev pub AreApart : List Program → Type 0
AreApart programs = AllPairs (λ p q. c_name p ≢ c_name q) programs
