use Rattle.std.proofs.Common.{◌-◌}
use Rattle.vsi_infer.specs.FlowRows.{flow_has}
use Rattle.vsi_infer.specs.Reach.{IsSpread}
use Rattle.vsi_infer.proofs.distances.spread.Given as goal

abbrev pub invariant-loop-v : goal.invariant-loop-v
invariant-loop-v l =
    IsSpread (λ a b. flow_has l.rows b a) (flow_has l.front 0) l.level l.v l.fn.far l.far (flow_has l.next 0) l.more

abbrev pub decreases-loop-v : goal.decreases-loop-v
decreases-loop-v l = 1024 - l.v
