-- Positions of a text whose lines and columns are known.
use Rattle.std.specs.Prelude.{◌≡◌, ℕ, ◌+◌, ◌≤◌, List, take, length}
use Rattle.vsi_syntax.specs.Lines.{breaks, last_line}
use Rattle.vsi_infer.specs.declared.explanation.Mark.{Mark}

-- The position is within the text, and has that line and that column.
pub record IsMarkOf (text : List ℕ) (m : Mark) : Type 0 where
  pub line : m.line ≡ 1 + breaks (take m.at text)
  pub column : m.column ≡ 1 + length (last_line (take m.at text))
  pub line_small : m.line ≤ 1 + m.at
  pub column_small : m.column ≤ 1 + m.at
  pub within : m.at ≤ length text
