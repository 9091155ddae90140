use Rattle.std.proofs.Common.{◌≡◌, ◌≤◌, length, false}
use Rattle.vsi_arguments.specs.Words.{left, texts}
use Rattle.vsi_arguments.proofs.arguments.next_operand.Given as goal

abbrev pub invariant-loop-rest : goal.invariant-loop-rest
invariant-loop-rest l = record {
  goes_on : left l.is_over false (texts l.words) ≡ left l.is_past l.is_value (texts l.rest);
  within : length l.rest ≤ length l.words;
}

abbrev pub decreases-loop-rest : goal.decreases-loop-rest
decreases-loop-rest l = length l.rest
