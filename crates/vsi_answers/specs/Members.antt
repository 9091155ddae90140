-- Members of JSON objects, with keys in byte order, and lines.
use Rattle.std.specs.Prelude.{ℕ, ℤ, ◌-◌, Option, Some, None, List, ◌++◌, length, take, codes}
use Rattle.std.specs.Str.Lossy.{utf8_lossy}
use Rattle.serde_json.specs.Data.{Data, null, object, string, number, unsigned, Members, put}
use Rattle.serde_json.specs.Find.{of_integer}
use Rattle.serde_json.specs.Written.{compact_text}

-- A text at a key, with bytes that aren't UTF-8 replaced.
abbrev pub with_text : List ℕ → List ℕ → Members → Members
with_text key bytes ms = put key (string (utf8_lossy bytes)) ms

-- A number of at least 0 at a key.
abbrev pub with_natural : List ℕ → ℕ → Members → Members
with_natural key n ms = put key (number (unsigned n)) ms

-- A word at a key.
abbrev pub with_word : List ℕ → ℤ → Members → Members
with_word key word ms = put key (number (of_integer word)) ms

-- The word, or `null` if there is none.
abbrev pub found : Option ℤ → Data
found None = null
found (Some word) = number (of_integer word)

-- Lines without the last line feed.
abbrev pub without_end : List ℕ → List ℕ
without_end lines = take (length lines - 1) lines

-- The line of an object with these members.
abbrev pub object_line : Members → List ℕ
object_line ms = compact_text (object ms) ++ codes "\n"
