-- The texts of parts of a page or a graph.
use Rattle.std.specs.Prelude.{ℕ, Bool, true, false, cond, List, [], ◌∷◌, decimal, map}
use Rattle.vsi_report.specs.Banner.{untagged}
use Rattle.vsi_report.specs.Escape.{escaped}
use Rattle.vsi_report.specs.Filled.{prefix}
use Rattle.vsi_report.specs.declared.page.Part.{Part}
use Rattle.vsi_report.specs.declared.page.Part.TheVariants.{Markup, Bytes, Block, Text, Style, Number, Prefix, Short, Word, Name, Chip, Position}

-- The text of the part is stated here.
abbrev pub is_stated : Part → Bool
is_stated (Markup bytes) = true
is_stated (Bytes bytes) = true
is_stated (Block page) = true
is_stated (Text text) = true
is_stated (Style style) = true
is_stated (Number n) = true
is_stated (Prefix n) = true
is_stated (Short text) = false
is_stated (Word word) = false
is_stated (Name variable) = false
is_stated (Chip variable) = false
is_stated (Position text at) = false

-- The texts of all parts are stated here.
abbrev pub are_stated : List Part → Bool
are_stated [] = true
are_stated (p ∷ ps) = cond (is_stated p) (are_stated ps) false

-- The text of a part that is stated.
abbrev pub words : Part → List ℕ
words (Markup bytes) = bytes.now
words (Bytes bytes) = bytes.now
words (Block page) = page.now.text.items
words (Text text) = escaped text.now
words (Style style) = untagged style.now
words (Number n) = decimal n
words (Prefix n) = prefix n
words (Short text) = []
words (Word word) = []
words (Name variable) = []
words (Chip variable) = []
words (Position text at) = []

-- The texts of the parts.
abbrev pub texts_of : List Part → List (List ℕ)
texts_of parts = map words parts
