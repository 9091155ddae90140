use Rattle.std.proofs.Common.{◌≡◌, ◌+◌, length}
use Rattle.vsi_syntax.specs.Places as spec
use Rattle.vsi_syntax.proofs.layouts.common.Given as goal

abbrev pub invariant-loop-a_rest : goal.invariant-loop-a_rest
invariant-loop-a_rest l = record {
  counted : l.count + spec.common l.a_rest l.b_rest ≡ spec.common l.first l.second;
  within : l.count + length l.a_rest ≡ length l.first;
}

abbrev pub decreases-loop-a_rest : goal.decreases-loop-a_rest
decreases-loop-a_rest l = length l.a_rest
