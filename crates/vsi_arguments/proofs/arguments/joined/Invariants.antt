use Rattle.std.proofs.Common.{◌≡◌, length}
use Rattle.vsi_arguments.specs.Words.{joined}
use Rattle.vsi_arguments.proofs.arguments.joined.Given as goal

abbrev pub invariant-loop-left : goal.invariant-loop-left
invariant-loop-left l = joined l.left l.rest ≡ joined l.option l.word

abbrev pub decreases-loop-left : goal.decreases-loop-left
decreases-loop-left l = length l.left
