-- The beginnings of lines, and of characters.
use Rattle.std.proofs.Common.{◌≡◌, ◌<◌, ◌+◌, ◌-◌, ◌∷◌, ℕ, zero, suc, List, [], length, drop, refl, arith}
use Rattle.vsi_client.specs.declared.places.Encoding.{Encoding}
use Rattle.vsi_client.specs.Places.{BeginsCharacter, in_line, line_size, line_start, units}

-- There are no bytes before a line of no text.
pub line_start_nil : (n : ℕ) → line_start n [] ≡ 0
line_start_nil zero = refl
line_start_nil (suc n) = omega (arith, line_start_nil n)

-- Nor are there before one of a text without bytes.
pub line_start_none : (n : ℕ) (text : List ℕ) → length text ≡ 0 → line_start n text ≡ 0
line_start_none n [] none = line_start_nil n
line_start_none n (byte ∷ rest) none = absurd (omega (arith, none))

-- The bytes before a line, but the first, are those of the first line and of the others before it.
pub line_start_more : (n : ℕ) (text : List ℕ) → 0 < n →
    line_start n text ≡ line_size text + line_start (n - 1) (drop (line_size text) text)
line_start_more zero text some = absurd (omega (arith, some))
line_start_more (suc n) text some = let e : suc n - 1 ≡ n = omega arith in rw e refl

-- A position in a line isn't inside of a character.
pub in_line_begins : (encoding : Encoding) (n : ℕ) (text : List ℕ) →
    BeginsCharacter (drop (in_line encoding n text) text)
in_line_begins encoding n [] = tt
in_line_begins encoding n (byte ∷ rest) = grind (arith, in_line_begins encoding (n - units encoding byte) rest)
