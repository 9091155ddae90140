use Rattle.std.proofs.Common.{◌≡◌, ◌++◌, drop}
use Rattle.vsi_conform.specs.Points as spec
use Rattle.vsi_conform.proofs.conforming.image_points.Given as goal

-- The points so far and those of the remaining runs are all points.
abbrev pub invariant-loop-number : goal.invariant-loop-number
invariant-loop-number l =
    l.points.items ++ spec.trials_points l.verified l.number (drop l.number l.interface.trials.items)
    ≡ l.initial.points.items ++ spec.trials_points l.verified 0 l.interface.trials.items
