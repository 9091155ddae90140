use Rattle.std.proofs.Common.{◌≡◌, ◌≤◌, ◌+◌, length}
use Rattle.vsi_report.specs.Lead.{refused_of}
use Rattle.vsi_report.proofs.banner.count_refused.Given as goal

-- The count is that of the pairs before the rest.
abbrev pub invariant-loop-rest : goal.invariant-loop-rest
invariant-loop-rest l =
    (refused_of l.pairs ≡ l.count + refused_of l.rest) × (l.count + length l.rest ≤ length l.pairs)

abbrev pub decreases-loop-rest : goal.decreases-loop-rest
decreases-loop-rest l = length l.rest
