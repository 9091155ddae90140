use Rattle.std.proofs.Common.{◌≡◌, ◌++◌, length, false}
use Rattle.vsi_arguments.specs.Words.{left, operands_in, shown, texts}
use Rattle.vsi_arguments.proofs.arguments.operands.Given as goal

abbrev pub invariant-loop-operand : goal.invariant-loop-operand
invariant-loop-operand l =
    operands_in false (texts l.words) ≡ shown l.operands.items ++ left l.is_over false (texts l.rest)

abbrev pub decreases-loop-operand : goal.decreases-loop-operand
decreases-loop-operand l = length l.rest
