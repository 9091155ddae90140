use Rattle.std.proofs.Common.{◌≡◌, ◌≤◌, length}
use Rattle.vsi_syntax.specs.Words as spec
use Rattle.vsi_drive.proofs.settings.number_up_to.Given as goal

-- The digits so far have this value, and the rest decides whether all are digits.
abbrev pub invariant-loop-rest : goal.invariant-loop-rest
invariant-loop-rest l = record {
  so_far : spec.value_from l.value l.rest ≡ spec.value_of l.digits;
  fits : l.value ≤ l.limit;
  digits : spec.every spec.is_digit l.rest ≡ spec.every spec.is_digit l.digits;
}

abbrev pub decreases-loop-rest : goal.decreases-loop-rest
decreases-loop-rest l = length l.rest
