-- How a mark of a text moves one byte further.
use Rattle.std.proofs.Common.{◌≡◌, ℕ, ◌+◌, ◌<◌, ◌≤◌, min, true, false, eqb, List, length, take, get_or, ap, ◌∙◌, arith}
use Rattle.vsi_syntax.specs.Lines.{breaks, last_line}
use Rattle.vsi_syntax.proofs.Places.{Stands, stands_break, stands_on, stop}
use Rattle.vsi_infer.specs.declared.explanation.Mark.{Mark}
use Rattle.vsi_infer.specs.Lines.{IsMarkOf}

-- A mark gives the line and the column of its position.
stands : (text : List ℕ) (m : Mark) → IsMarkOf text m → Stands text m.at m.line m.column
stands text m i = record {
  line_is = i.line;
  column_is = i.column;
  line_small = i.line_small;
  column_small = i.column_small;
}

-- A position whose line and column are known is a mark.
mark : (text : List ℕ) (i line column : ℕ) → i ≤ length text → Stands text i line column
    → IsMarkOf text (record { at = i; line = line; column = column })
mark text i line column le s = record {
  line = s.line_is;
  column = s.column_is;
  line_small = s.line_small;
  column_small = s.column_small;
  within = le;
}

-- After a line feed, a mark is at the start of the next line.
pub mark_break : (text : List ℕ) (m : Mark) → m.at < length text → eqb (get_or text m.at 0) 10 ≡ true
    → IsMarkOf text m → IsMarkOf text (record { at = m.at + 1; line = m.line + 1; column = 1 })
mark_break text m lt e i =
    mark text (m.at + 1) (m.line + 1) 1 (omega (arith, lt))
    (stands_break text m.at m.line m.column lt e (stands text m i))

-- After any other byte, a mark is one column further.
pub mark_on : (text : List ℕ) (m : Mark) → m.at < length text → eqb (get_or text m.at 0) 10 ≡ false
    → IsMarkOf text m → IsMarkOf text (record { at = m.at + 1; line = m.line; column = m.column + 1 })
mark_on text m lt e i =
    mark text (m.at + 1) m.line (m.column + 1) (omega (arith, lt))
    (stands_on text m.at m.line m.column lt e (stands text m i))

-- A mark at a position has the line of the position.
pub line_at : (text : List ℕ) (m : Mark) (at : ℕ) → m.at ≡ min at (length text) → IsMarkOf text m
    → m.line ≡ 1 + breaks (take at text)
line_at text m at e i = i.line ∙ ap (λ l. 1 + breaks l) (stop text at m.at e)

-- A mark at a position has a column that counts the bytes before it in its line.
pub column_at : (text : List ℕ) (m : Mark) (at : ℕ) → m.at ≡ min at (length text) → IsMarkOf text m
    → m.column ≡ 1 + length (last_line (take at text))
column_at text m at e i = i.column ∙ ap (λ l. 1 + length (last_line l)) (stop text at m.at e)
