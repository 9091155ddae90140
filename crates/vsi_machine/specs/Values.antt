-- The effect of an expression's instructions on the facts about the operands.
use Rattle.std.specs.Prelude.{◌≡◌, ℕ, ◌+◌, ℤ, List, ◌∷◌, Some, reverse}
use Rattle.vsi_image.specs.declared.instr.Instr.{Instr}
use Rattle.vsi_image.specs.Meaning.{acted, going}
use Rattle.vsi_syntax.specs.declared.tree.Op.{Op}
use Rattle.vsi_syntax.specs.Operators.{apply}
use Rattle.vsi_machine.specs.declared.loops.Known.{Known}
use Rattle.vsi_machine.specs.Known.{AllMean, Hold}

-- The instruction replaces two operands by the operator's result.
abbrev pub IsOperator : Instr → Op → Type 0
IsOperator i op =
    (pc : ℕ) (a b : ℤ) (s m : List ℤ) → acted i pc (b ∷ a ∷ s) m ≡ Some (going (pc + 1) (apply op a b ∷ s) m)

-- If the facts hold of the operands, with the last fact about the top one, there are two operands, and the remaining
-- facts hold of the rest with the operator's word on top.
pub record Operated (m : List ℤ) (op : Op) (s : List ℤ) (left : List Known) : Type 0 where
  pub a : ℤ
  pub b : ℤ
  pub rest : List ℤ
  pub same : s ≡ b ∷ a ∷ rest
  pub mean : AllMean m (reverse left) (apply op a b ∷ rest)

-- The operator does so for all operands.
abbrev pub Operates : Op → List Known → List Known → Type 0
Operates op held left = (m s : List ℤ) → AllMean m (reverse held) s → Operated m op s left

-- The instruction leads to the next position, with operands for which these facts hold.
pub record Acted (m : List ℤ) (i : Instr) (pc : ℕ) (s now : List ℤ) (left : List Known) : Type 0 where
  pub operands : List ℤ
  pub acts : acted i pc s now ≡ Some (going (pc + 1) operands now)
  pub mean : AllMean m (reverse left) operands

-- It does so from all slots and operands for which the facts before hold.
abbrev pub Acts : Instr → List Known → List Known → List Known → Type 0
Acts i facts held left =
    (m now s : List ℤ) (pc : ℕ) → Hold m facts now → AllMean m (reverse held) s → Acted m i pc s now left
