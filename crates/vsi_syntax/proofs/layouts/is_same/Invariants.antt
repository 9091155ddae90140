use Rattle.std.proofs.Common.{◌≡◌, length}
use Rattle.vsi_syntax.specs.Cut.{pieces}
use Rattle.vsi_syntax.specs.Same as spec
use Rattle.vsi_syntax.proofs.layouts.is_same.Given as goal

abbrev pub invariant-loop-a_rest : goal.invariant-loop-a_rest
invariant-loop-a_rest l =
    spec.is_same_from l.a_at l.first (pieces l.a_rest) l.b_at l.second (pieces l.b_rest)
    ≡ spec.is_same l.first (pieces l.firsts) l.second (pieces l.seconds)

abbrev pub decreases-loop-a_rest : goal.decreases-loop-a_rest
decreases-loop-a_rest l = length l.a_rest
