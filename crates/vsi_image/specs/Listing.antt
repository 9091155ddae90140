-- An image as text.
use Rattle.std.specs.Prelude.{ℕ, ◌+◌, List, [], ◌∷◌, ◌++◌, length, codes, decimal}
use Rattle.std.specs.Fmt.{signed_decimal}
use Rattle.std.specs.List.{flat_map}
use Rattle.vsi_image.specs.declared.instr.Instr.{Instr}
use Rattle.vsi_image.specs.declared.instr.Instr.TheVariants.{Push, Load, Store, Add, Sub, Mul, Eq, Lt, Jz, Jmp, Halt}
use Rattle.vsi_image.specs.Fields.{Global, Fields}

-- The text of an instruction: its mnemonic, and its operand in decimal.
abbrev pub instr_text : Instr → List ℕ
instr_text (Push n) = codes "PUSH " ++ signed_decimal n
instr_text (Load s) = codes "LOAD " ++ decimal s
instr_text (Store s) = codes "STORE " ++ decimal s
instr_text Add = codes "ADD"
instr_text Sub = codes "SUB"
instr_text Mul = codes "MUL"
instr_text Eq = codes "EQ"
instr_text Lt = codes "LT"
instr_text (Jz t) = codes "JZ " ++ decimal t
instr_text (Jmp t) = codes "JMP " ++ decimal t
instr_text Halt = codes "HALT"

-- The line of an instruction begins with its number.
abbrev pub instr_line : ℕ → Instr → List ℕ
instr_line pc i = decimal pc ++ codes ": " ++ instr_text i ++ codes "\n"

-- The lines of instructions that are numbered from pc on.
abbrev pub code_lines : ℕ → List Instr → List ℕ
code_lines pc [] = []
code_lines pc (i ∷ is) = instr_line pc i ++ code_lines (pc + 1) is

-- The line of a global: its name and its class name.
abbrev pub global_line : Global → List ℕ
global_line g = g.0 ++ codes " : " ++ g.1 ++ codes "\n"

-- The line of a number, which begins with this label.
abbrev pub number_line : List ℕ → ℕ → List ℕ
number_line word n = word ++ decimal n ++ codes "\n"

-- The text of an image: its numbers, its globals and its instructions, one line each.
abbrev pub listing : Fields → List ℕ
listing f =
    number_line (codes "globals ") (length f.globals)
    ++ number_line (codes "slots ") f.slots
    ++ number_line (codes "stack ") f.stack
    ++ flat_map global_line f.globals
    ++ code_lines 0 f.code
