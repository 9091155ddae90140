-- Texts about a count of instructions.
use Rattle.std.specs.Prelude.{ℕ, ◌==◌, if◌then◌else◌, List, [], ◌++◌, Option, Some, None, codes, decimal}
use Rattle.vsi_image.specs.declared.instr.Image.{Image}
use Rattle.vsi_image.specs.Meaning.{State}
use Rattle.vsi_machine.specs.Trace.{trace_line}

-- The line of a number of instructions.
abbrev pub count_line : ℕ → List ℕ
count_line n = codes "instructions: " ++ decimal n ++ codes "\n"

-- The noun after a number of instructions.
abbrev pub noun : ℕ → List ℕ
noun n = if n == 1 then codes " instruction" else codes " instructions"

-- A number of instructions, with its noun.
abbrev pub number_of : ℕ → List ℕ
number_of n = decimal n ++ noun n

-- The text before the trace line of the next instruction, followed by that line, if there is one.
abbrev pub before_next : ℕ → Option (List ℕ) → List ℕ
before_next n None = []
before_next n (Some line) =
    codes "After " ++ number_of n ++ codes " the budget is spent. The next one is\n  " ++ line ++ codes "\n"

-- The text for a run of this many instructions that has not halted.
abbrev pub stop_lines : Image → State → ℕ → List ℕ
stop_lines image s n = before_next n (trace_line image.code.items s)
