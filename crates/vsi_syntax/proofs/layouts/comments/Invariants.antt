use Rattle.std.proofs.Common.{◌≡◌, ◌++◌, false, length}
use Rattle.vsi_syntax.specs.Comments as gaps
use Rattle.vsi_syntax.proofs.layouts.comments.Given as goal

abbrev pub invariant-loop-rest : goal.invariant-loop-rest
invariant-loop-rest l = l.text.items ++ gaps.comments l.is_inside l.rest ≡ gaps.comments false l.fn.gap

abbrev pub decreases-loop-rest : goal.decreases-loop-rest
decreases-loop-rest l = length l.rest
