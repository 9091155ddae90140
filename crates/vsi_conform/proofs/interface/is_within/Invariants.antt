use Rattle.std.proofs.Common.{◌≤◌, ◌<◌, length}
use Rattle.vsi_conform.specs.Totals.{sum_of}
use Rattle.vsi_conform.proofs.interface.is_within.Given as goal

-- The remaining runs fit into the budget that is left exactly if all runs fit into the whole budget.
abbrev pub invariant-loop-rest : goal.invariant-loop-rest
invariant-loop-rest l =
    (sum_of l.rest ≤ l.left → sum_of l.interface.trials.items ≤ l.budget) × (l.left < sum_of l.rest → l.budget < sum_of l.interface.trials.items)

abbrev pub decreases-loop-rest : goal.decreases-loop-rest
decreases-loop-rest l = length l.rest
