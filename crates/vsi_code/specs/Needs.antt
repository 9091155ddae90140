-- The operands and slots that a program needs.
use Rattle.std.specs.Prelude.{◌≡◌, ℕ, ◌+◌, ◌≤◌, max, List, length}
use Rattle.vsi_image.specs.declared.instr.Instr.{Instr}
use Rattle.vsi_image.specs.Effects.{depth_at}
use Rattle.vsi_scope.specs.Language.{Expression, Number, Location, Operator, Command, Skip, Assign, Sequence, If, While, Letvar, nesting}
use Rattle.vsi_scope.specs.Program.{Resolved}
use Rattle.vsi_scope.specs.View.{sequence}

-- The greatest number of operands that an expression has at a time, including its value.
abbrev pub expression_height : Expression → ℕ
expression_height (Number n) = 1
expression_height (Location l s) = 1
expression_height (Operator o a b) = max (expression_height a) (expression_height b + 1)

-- The greatest number of operands that a command has at a time.
abbrev pub height : Command → ℕ
height Skip = 0
height (Assign l s e) = expression_height e
height (Sequence a b) = max (height a) (height b)
height (If e a b) = max (expression_height e) (max (height a) (height b))
height (While e c) = max (expression_height e) (height c)
height (Letvar e c) = max (expression_height e) (height c)

-- A program's slots: one for each global, and one for each letvar of the deepest nesting.
abbrev pub slots_of : Resolved → ℕ
slots_of r = length r.globals + nesting (sequence r.body)

-- No instruction of the code finds more operands than this, and some position has that many.
pub record IsGreatestDepth (code : List Instr) (stack : ℕ) : Type 0 where
  pub within : (pc : ℕ) → depth_at code pc ≤ stack
  pub reached : (pc : ℕ) × (depth_at code pc ≡ stack)
