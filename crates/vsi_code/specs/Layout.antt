-- The layout of code.
use Rattle.std.specs.Prelude.{ℕ, ◌+◌, ◌<◌, ◌≤◌, List, [], ◌∷◌, ◌++◌, length}
use Rattle.vsi_image.specs.declared.instr.Instr.{Instr}
use Rattle.vsi_image.specs.declared.instr.Instr.TheVariants as i
use Rattle.vsi_syntax.specs.declared.tree.Op.{Op}
use Rattle.vsi_syntax.specs.declared.tree.Op.TheVariants as o
use Rattle.vsi_scope.specs.Language.{Expression, Number, Location, Operator, Command, Skip, Assign, Sequence, If, While, Letvar, expression_size, size, nesting}
use Rattle.vsi_image.specs.Fields.{max_instructions, max_slots}

-- The instruction of an operator.
abbrev pub op_code : Op → Instr
op_code o.Add = i.Add
op_code o.Sub = i.Sub
op_code o.Mul = i.Mul
op_code o.Eq = i.Eq
op_code o.Lt = i.Lt

-- An expression's code is the code of the left operand, that of the right operand, and the operator.
abbrev pub expression_code : Expression → List Instr
expression_code (Number n) = i.Push n ∷ []
expression_code (Location l s) = i.Load l ∷ []
expression_code (Operator o a b) = expression_code a ++ (expression_code b ++ op_code o ∷ [])

-- A guard's code is the code of its expression, and a jump to the target if the word is 0.
abbrev pub guard_code : Expression → ℕ → List Instr
guard_code e target = expression_code e ++ i.Jz target ∷ []

-- A choice is its guard, a jump to the second branch if the word is 0, the first branch, a jump to the end, and the
-- second branch.
abbrev pub choice_code : List Instr → ℕ → List Instr → ℕ → List Instr → List Instr
choice_code guard other first end second = guard ++ (i.Jz other ∷ (first ++ (i.Jmp end ∷ second)))

-- A loop is its guard, a jump to the end if the word is 0, the body, and a jump to the guard.
abbrev pub loop_code : List Instr → ℕ → List Instr → ℕ → List Instr
loop_code guard end body start = guard ++ (i.Jz end ∷ (body ++ i.Jmp start ∷ []))

-- The code of a command that begins at pc, with k words in scope.
abbrev pub code_at : ℕ → ℕ → Command → List Instr
code_at pc k Skip = []
code_at pc k (Assign l s e) = expression_code e ++ i.Store l ∷ []
code_at pc k (Sequence a b) = code_at pc k a ++ code_at (pc + size a) k b
code_at pc k (If e a b) =
    let first = pc + expression_size e + 1 in
    let second = first + size a + 1 in
    choice_code (expression_code e) second (code_at first k a) (second + size b) (code_at second k b)
code_at pc k (While e c) =
    let body = pc + expression_size e + 1 in
    loop_code (expression_code e) (body + size c + 1) (code_at body k c) pc
code_at pc k (Letvar e c) = expression_code e ++ (i.Store k ∷ code_at (pc + expression_size e + 1) (k + 1) c)

-- The code followed by a command's code.
abbrev pub with_code : List Instr → ℕ → Command → List Instr
with_code before k c = before ++ code_at (length before) k c

-- The whole code of a body, which ends with a HALT.
abbrev pub whole_code : ℕ → Command → List Instr
whole_code globals c = code_at 0 globals c ++ i.Halt ∷ []

-- A command's code fits between this many instructions and a HALT, and its letvars above this many words.
pub record Fits (pc k : ℕ) (c : Command) : Type 0 where
  pub size : pc + size c < max_instructions
  pub slots : k + nesting c ≤ max_slots
