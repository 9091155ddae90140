-- The text that a reader of a page sees: tags are removed and escapes are undone.
use Rattle.std.specs.Prelude.{◌≡◌, ℕ, ◌+◌, ◌-◌, ◌*◌, ◌==◌, if◌then◌else◌, List, [], ◌∷◌, ◌++◌}

-- A reader is between tags, in a tag, or in an escape with the number read so far.
pub data Mode : Type 0 where
  Between : Mode
  Within : Mode
  Escape : ℕ → Mode

-- The reader's state after a byte.
abbrev pub behind : Mode → ℕ → Mode
behind Between b = if b == 60 then Within else if b == 38 then Escape 0 else Between
behind Within b = if b == 62 then Between else Within
behind (Escape n) b = if b == 59 then Between else if b == 35 then Escape n else Escape (n * 10 + (b - 48))

-- The text that a byte shows.
abbrev pub seen_of : Mode → ℕ → List ℕ
seen_of Between b = if b == 60 then [] else if b == 38 then [] else b ∷ []
seen_of Within b = []
seen_of (Escape n) b = if b == 59 then n ∷ [] else []

-- The text that a page shows from a state on.
abbrev pub seen : Mode → List ℕ → List ℕ
seen m [] = []
seen m (b ∷ rest) = seen_of m b ++ seen (behind m b) rest

-- The markup shows the text, and after it the reader is between tags again.
abbrev pub Shows : List ℕ → List ℕ → Type 0
Shows markup text = (rest : List ℕ) → seen Between (markup ++ rest) ≡ text ++ seen Between rest
