-- Cycles of a controller: a line sets globals, the image runs, and the globals that the class sees, or that are
-- released, are written.
use Rattle.std.specs.Prelude.{◌≡◌, ℕ, ◌-◌, ◌≤◌, ℤ, List, [], ◌∷◌, ◌++◌, length, take, Option, Some, None, Result, Ok, Err, if◌then◌else◌, codes}
use Rattle.std.specs.Fmt.{signed_decimal}
use Rattle.vsi_image.specs.Fields.{Global, globals}
use Rattle.vsi_image.specs.Meaning.{State}
use Rattle.vsi_machine.specs.Runs.{globals_of, run_of}
use Rattle.vsi_drive.specs.declared.settings.LineFault.{LineFault}
use Rattle.vsi_drive.specs.declared.controller.CycleEnding.{CycleEnding}
use Rattle.vsi_drive.specs.declared.controller.CycleEnding.TheVariants.{Halted, OutOfBudget, Refused}
use Rattle.vsi_drive.specs.Control.{Control, is_written}
use Rattle.vsi_drive.specs.Settings.{Setting, settings_of, applied, fault_line}

-- `NAME = NUMBER` and a space for a global that is written, and nothing for any other.
abbrev pub global_seen : Control → Global → ℤ → List ℕ
global_seen c g w =
    if is_written c g then g.0 ++ codes " = " ++ signed_decimal w ++ codes " " else []

-- The text of the globals of a store that are written.
abbrev pub globals_seen : Control → List Global → List ℤ → List ℕ
globals_seen c [] words = []
globals_seen c (g ∷ gs) [] = []
globals_seen c (g ∷ gs) (w ∷ ws) = global_seen c g w ++ globals_seen c gs ws

-- The same text as a line, with a line end in place of the last space.
abbrev pub line_seen : Control → List ℤ → List ℕ
line_seen c words =
    let seen = globals_seen c (globals c.image.globals.items) words in take (length seen - 1) seen ++ codes "\n"

-- The end of a cycle, the line that it writes, and the store after it.
pub record Cycle : Type 0 where
  pub ending : CycleEnding
  pub line : List ℕ
  pub store : List ℤ

-- A cycle that is out of budget leaves the store as it was.
abbrev pub spent : List ℤ → Cycle
spent m = record { ending = OutOfBudget; line = codes "out of budget\n"; store = m }

-- A cycle whose run halts with these words.
abbrev pub halted : Control → List ℤ → Cycle
halted c words = record { ending = Halted; line = line_seen c words; store = words }

-- The cycle from this store whose run ends in this state.
abbrev pub run_to : Control → List ℤ → Option State → Cycle
run_to c m None = spent m
run_to c m (Some s) = if s.halted then halted c (globals_of c.image s) else spent m

-- The cycle whose run begins with these words.
abbrev pub cycle_from : Control → List ℤ → List ℤ → Cycle
cycle_from c m words = run_to c m (run_of c.image words c.budget)

-- The cycle of a line's settings, or of its fault, which leaves the store as it was.
abbrev pub cycle_of : Control → List ℤ → Result (List Setting) LineFault → Cycle
cycle_of c m (Err fault) = record { ending = Refused fault; line = fault_line fault; store = m }
cycle_of c m (Ok settings) = cycle_from c m (applied settings m)

-- The cycle of a line.
abbrev pub cycle : Control → List ℤ → List ℕ → Cycle
cycle c m line = cycle_of c m (settings_of c line)

-- The store after the cycles of these lines.
abbrev pub store_behind : Control → List ℤ → List (List ℕ) → List ℤ
store_behind c m [] = m
store_behind c m (line ∷ lines) = store_behind c (cycle c m line).store lines

-- The store is the store after whole cycles, namely those of the first i of these lines.
pub record StandsBehind (c : Control) (m : List ℤ) (lines : List (List ℕ)) (words : List ℤ) : Type 0 where
  pub i : ℕ
  pub within : i ≤ length lines
  pub is : words ≡ store_behind c m (take i lines)

-- The output of the cycles of these lines.
abbrev pub text_of : Control → List ℤ → List (List ℕ) → List ℕ
text_of c m [] = []
text_of c m (line ∷ lines) = (cycle c m line).line ++ text_of c (cycle c m line).store lines
