-- The lines of standard input, and the output of a controller driven by them.
use Rattle.std.specs.Prelude.{◌≡◌, ℕ, ℤ, ◌++◌, ◌==◌, ◌∷◌, List, [], length, nat_lt, Option, IfSome, if◌then◌else◌}
use Rattle.std.specs.Io.KnownBytes.{Appends}
use Rattle.vsi_drive.specs.Control.{Control}
use Rattle.vsi_drive.specs.Cycles.{store_behind, text_of}
use Rattle.vsi_drive.specs.Settings.{max_line_length}

-- A line with its next byte; a line that is too long keeps only enough bytes to show that.
abbrev pub grown : List ℕ → ℕ → List ℕ
grown line byte = if nat_lt max_line_length (length line) then line else line ++ byte ∷ []

-- The lines that end in these bytes, if `line` is the part of the first that was read before.
abbrev pub whole_lines : List ℕ → List ℕ → List (List ℕ)
whole_lines line [] = []
whole_lines line (byte ∷ bytes) = if byte == 10 then line ∷ whole_lines [] bytes else whole_lines (grown line byte)
    bytes

-- The bytes after the last line feed.
abbrev pub begun : List ℕ → List ℕ → List ℕ
begun line [] = line
begun line (byte ∷ bytes) = if byte == 10 then begun [] bytes else begun (grown line byte) bytes

-- The bytes after the last line feed are a line if there are any.
abbrev pub last_line : List ℕ → List (List ℕ)
last_line [] = []
last_line (byte ∷ line) = (byte ∷ line) ∷ []

-- The lines of an input.
abbrev pub lines_of : List ℕ → List (List ℕ)
lines_of bytes = whole_lines [] bytes ++ last_line (begun [] bytes)

-- A controller has been driven by these lines: it has written the text of their cycles, and the store is the one after
-- them.
pub record Drives (c : Control) (m words : List ℤ) (lines : List (List ℕ)) (old new : Option (List ℕ)) : Type 0 where
  pub written : Appends old new (text_of c m lines)
  pub store : words ≡ store_behind c m lines

-- A controller has been driven by the lines of an input, whose bytes these are if they are known.
pub record DrivesInput (c : Control) (m words : List ℤ) (remaining old new : Option (List ℕ)) : Type 0 where
  pub bytes : List ℕ
  pub whole : IfSome remaining (λ all. bytes ≡ all)
  pub drives : Drives c m words (lines_of bytes) old new
