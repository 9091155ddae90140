use Rattle.std.proofs.Common.{◌≡◌, ◌++◌, length}
use Rattle.vsi_syntax.specs.Cut.{pieces}
use Rattle.vsi_syntax.specs.Places as spec
use Rattle.vsi_syntax.proofs.layouts.changes.Given as goal

abbrev pub invariant-loop-rest : goal.invariant-loop-rest
invariant-loop-rest l =
    l.starts.items ++ spec.changes_from l.at l.text (pieces l.rest) l.other_at l.out (pieces l.other_rest)
    ≡ spec.changes l.text (pieces l.tokens) l.out (pieces l.others)

abbrev pub decreases-loop-rest : goal.decreases-loop-rest
decreases-loop-rest l = length l.rest
