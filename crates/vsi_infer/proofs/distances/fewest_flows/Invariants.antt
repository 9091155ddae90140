use Rattle.vsi_infer.specs.FlowRows.{flow_has}
use Rattle.vsi_infer.specs.Distances.{unreached}
use Rattle.vsi_infer.specs.Reach.{IsLevel}
use Rattle.vsi_infer.proofs.distances.fewest_flows.Given as goal

abbrev pub invariant-levels : goal.invariant-levels
invariant-levels l =
    IsLevel (λ a b. flow_has l.flow.rows.items b a) l.count l.place l.level l.far.items (flow_has l.reached 0)
    (flow_has l.front 0)

abbrev pub decreases-levels : goal.decreases-levels
decreases-levels l = unreached l.far.items
