-- The shown form of bytes, with which no text can control a terminal.
use Rattle.std.specs.Prelude.{ℕ, ◌+◌, ◌/◌, ◌%◌, ◌==◌, nat_lt, nat_le, Bool, ◌&&◌, ◌||◌, if◌then◌else◌, List, [], ◌∷◌, codes}
use Rattle.std.specs.List.{flat_map, list_all}

-- Whether a byte is printable ASCII.
abbrev pub is_printable : ℕ → Bool
is_printable b = nat_le 32 b && nat_le b 126

-- Whether a byte is printable ASCII or a line feed.
abbrev pub is_plain : ℕ → Bool
is_plain b = b == 10 || is_printable b

-- Whether every byte is printable ASCII.
abbrev pub all_printable : List ℕ → Bool
all_printable bytes = list_all is_printable bytes

-- Whether every byte is printable ASCII or a line feed.
abbrev pub all_plain : List ℕ → Bool
all_plain bytes = list_all is_plain bytes

-- The hexadecimal digit of a number's last four bits.
abbrev pub hex_digit : ℕ → ℕ
hex_digit n = if nat_lt (n % 16) 10 then 48 + n % 16 else 87 + n % 16

-- A byte by its two digits.
abbrev pub by_digits : ℕ → List ℕ
by_digits b = 92 ∷ 120 ∷ hex_digit (b / 16) ∷ hex_digit b ∷ []

-- A tab becomes two blanks, printable ASCII stays as it is, and any other byte is written with its digits.
abbrev pub shown_byte : ℕ → List ℕ
shown_byte b = if b == 9 then codes "  " else if is_printable b then b ∷ [] else by_digits b

-- The shown form of bytes, none of which ends a line.
abbrev pub shown : List ℕ → List ℕ
shown bytes = flat_map shown_byte bytes

-- A line feed ends a line, any other byte is shown.
abbrev pub told_byte : ℕ → List ℕ
told_byte b = if b == 10 then 10 ∷ [] else shown_byte b

-- The shown form of a text with lines.
abbrev pub told : List ℕ → List ℕ
told bytes = flat_map told_byte bytes
