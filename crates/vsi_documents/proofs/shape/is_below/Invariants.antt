use Rattle.std.proofs.Common.{◌≡◌}
use Rattle.vsi_documents.specs.Shapes.{is_within}
use Rattle.vsi_documents.proofs.shape.is_below.Given as goal

abbrev pub invariant-loop-left : goal.invariant-loop-left
invariant-loop-left l = is_within l.left l.inner l.outer ≡ is_within l.names l.low l.high

abbrev pub decreases-loop-left : goal.decreases-loop-left
decreases-loop-left l = l.left
