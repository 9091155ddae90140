use Rattle.std.proofs.Common.{◌≡◌, ◌+◌, length}
use Rattle.vsi_report.specs.FlowsGraph.{number_from}
use Rattle.vsi_report.proofs.dot.step_number.Given as goal

-- No step before the rest leads there, and the number is that of the first step of the rest.
abbrev pub invariant-loop-rest : goal.invariant-loop-rest
invariant-loop-rest l =
    (number_from 1 l.drawn.walk.now l.rule l.from l.to ≡ number_from l.number l.rest l.rule l.from l.to)
    × (l.number + length l.rest ≡ length l.drawn.walk.now + 1)

abbrev pub decreases-loop-rest : goal.decreases-loop-rest
decreases-loop-rest l = length l.rest
