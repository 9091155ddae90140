-- The view of one run under a boundary: a line for each global that is written, if the run halts.
use Rattle.std.specs.Prelude.{ℕ, ℤ, List, [], ◌∷◌, ◌++◌, Option, Some, None, option_map, if◌then◌else◌, codes}
use Rattle.std.specs.Fmt.{signed_decimal}
use Rattle.vsi_image.specs.declared.instr.Image.{Image}
use Rattle.vsi_image.specs.Fields.{Global, globals}
use Rattle.vsi_image.specs.Meaning.{State}
use Rattle.vsi_machine.specs.Runs.{globals_of, run_of}
use Rattle.vsi_store.specs.Text.{line_of}
use Rattle.vsi_drive.specs.Control.{Control, is_written}

-- The line of a global that is written, and nothing for any other.
abbrev pub written_line : Control → Global → ℤ → List ℕ
written_line c g w = if is_written c g then line_of g.0 w else []

-- A line for each of these globals that is written, in order.
abbrev pub written_lines : Control → List Global → List ℤ → List ℕ
written_lines c [] words = []
written_lines c (g ∷ gs) [] = []
written_lines c (g ∷ gs) (w ∷ ws) = written_line c g w ++ written_lines c gs ws

-- `NAME = NUMBER` and this byte for a global that is written, and nothing for any other.
abbrev pub global_written : Control → ℕ → Global → ℤ → List ℕ
global_written c end g w = if is_written c g then g.0 ++ codes " = " ++ signed_decimal w ++ end ∷ [] else []

-- The same for each of these globals, in order.
abbrev pub globals_written : Control → ℕ → List Global → List ℤ → List ℕ
globals_written c end [] words = []
globals_written c end (g ∷ gs) [] = []
globals_written c end (g ∷ gs) (w ∷ ws) = global_written c end g w ++ globals_written c end gs ws

-- The lines of the globals of a store that are written.
abbrev pub written_text : Control → List ℤ → List ℕ
written_text c words = written_lines c (globals c.image.globals.items) words

-- The words of the globals in a state that has halted.
abbrev pub halted_words : Image → Option State → Option (List ℤ)
halted_words image None = None
halted_words image (Some s) = if s.halted then Some (globals_of image s) else None

-- The last words of the run from these words, if it halts within this budget.
abbrev pub last_words : Control → ℕ → List ℤ → Option (List ℤ)
last_words c budget words = halted_words c.image (run_of c.image words budget)

-- The view of the run from these words, if it halts within this budget.
abbrev pub view_of : Control → ℕ → List ℤ → Option (List ℕ)
view_of c budget words = option_map (written_text c) (last_words c budget words)
