use Rattle.std.proofs.Common.{◌≡◌, ℕ, ◌/◌, ◌&&◌, not}
use Rattle.std.specs.Prelude.{nat_lt}
use Rattle.vsi_infer.specs.FlowRows.{flow_has}
use Rattle.vsi_infer.proofs.distances.leave_out.Given as goal

abbrev pub invariant-loop-i : goal.invariant-loop-i
invariant-loop-i l =
    (a : ℕ) → flow_has l.front 0 a ≡ (flow_has l.fn.front 0 a && not (nat_lt (a / 64) l.i && flow_has l.reached 0 a))
