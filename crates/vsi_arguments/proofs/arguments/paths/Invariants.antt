use Rattle.std.proofs.Common.{◌≡◌, ◌++◌, length, false}
use Rattle.vsi_arguments.specs.Words.{left, shown, texts}
use Rattle.vsi_arguments.proofs.arguments.paths.Given as goal

abbrev pub invariant-loop-path : goal.invariant-loop-path
invariant-loop-path l =
    left l.is_over false (texts l.words) ≡ shown l.paths.items ++ left l.is_past false (texts l.rest)

abbrev pub decreases-loop-path : goal.decreases-loop-path
decreases-loop-path l = length l.rest
