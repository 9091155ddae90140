-- Positions in a text: a line, and the code units before a place in that line, both from 0.
use Rattle.std.specs.Prelude.{◌≡◌, ℕ, zero, suc, ◌+◌, ◌-◌, ◌==◌, ◌||◌, ◌&&◌, ◌≤◌, length, List, [], ◌∷◌, Bool, true, false, drop, nat_lt, if◌then◌else◌}
use Rattle.vsi_client.specs.declared.places.Encoding.{Encoding}
use Rattle.vsi_client.specs.declared.places.Encoding.TheVariants.{Utf8, Utf16}
use Rattle.vsi_client.specs.declared.places.Place.{Place}

-- The code units of a character of several bytes, at its first byte.
abbrev pub long_units : Encoding → ℕ → ℕ
long_units Utf8 byte = if nat_lt byte 224 then 2 else if nat_lt byte 240 then 3 else 4
long_units Utf16 byte = if nat_lt byte 240 then 1 else 2

-- The code units that a byte of UTF-8 adds: those of its character at the first byte, and none at the others.
abbrev pub units : Encoding → ℕ → ℕ
units encoding byte = if nat_lt byte 128 then 1 else if nat_lt byte 192 then 0 else long_units encoding byte

-- A line feed or a carriage return.
abbrev pub is_break : ℕ → Bool
is_break byte = byte == 10 || byte == 13

-- The length of a line feed at the beginning of a text.
abbrev pub feed_size : List ℕ → ℕ
feed_size [] = 0
feed_size (byte ∷ rest) = if byte == 10 then 1 else 0

-- The length of the first line with its end, which is a line feed, a carriage return, or both.
abbrev pub line_size : List ℕ → ℕ
line_size [] = 0
line_size (byte ∷ rest) =
    if byte == 10 then 1 else if byte == 13 then suc (feed_size rest) else suc (line_size rest)

-- The bytes before a line; all of them if there are fewer lines.
abbrev pub line_start : ℕ → List ℕ → ℕ
line_start zero text = 0
line_start (suc n) text = line_size text + line_start n (drop (line_size text) text)

-- The bytes of the whole characters within a number of code units, up to the end of the line.
abbrev pub in_line : Encoding → ℕ → List ℕ → ℕ
in_line encoding n [] = 0
in_line encoding n (byte ∷ rest) =
    if is_break byte || nat_lt n (units encoding byte) then 0
    else suc (in_line encoding (n - units encoding byte) rest)

-- The bytes before a place in a line.
abbrev pub offset_at : Encoding → List ℕ → ℕ → ℕ → ℕ
offset_at encoding text line character =
    line_start line text + in_line encoding character (drop (line_start line text) text)

-- The bytes before a position.
abbrev pub offset_in : Encoding → List ℕ → Place → ℕ
offset_in encoding text place = offset_at encoding text place.line place.character

-- The byte isn't one of those inside of a character.
abbrev pub BeginsCharacter : List ℕ → Type 0
BeginsCharacter [] = Unit {0}
BeginsCharacter (byte ∷ rest) = (nat_lt byte 192 ≡ true) → nat_lt byte 128 ≡ true

-- The bytes of a line without its end.
abbrev pub content_size : List ℕ → ℕ
content_size [] = 0
content_size (byte ∷ rest) = if is_break byte then 0 else suc (content_size rest)

-- The code units of a text.
abbrev pub units_in : Encoding → List ℕ → ℕ
units_in encoding [] = 0
units_in encoding (byte ∷ rest) = units encoding byte + units_in encoding rest

-- The text begins with this byte.
abbrev pub begins : ℕ → List ℕ → Bool
begins byte [] = false
begins byte (first ∷ rest) = first == byte

-- The place before a byte is between a carriage return and its line feed.
abbrev pub splits_end : ℕ → List ℕ → Bool
splits_end zero text = false
splits_end (suc n) text = begins 13 (drop n text) && begins 10 (drop (suc n) text)

-- The place before a byte is in the text, not inside of a character, and not inside of a line's end.
pub record IsPlaced (text : List ℕ) (at : ℕ) : Type 0 where
  pub within : at ≤ length text
  pub begins_character : BeginsCharacter (drop at text)
  pub whole_end : splits_end at text ≡ false
