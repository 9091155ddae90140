use Rattle.std.proofs.Common.{◌≡◌, ℕ, ◌/◌, ◌&&◌, ◌||◌, ◌==◌, length}
use Rattle.std.specs.Prelude.{nat_lt}
use Rattle.vsi_infer.specs.FlowRows.{flow_has}
use Rattle.vsi_infer.proofs.flows.note_row.Given as goal

abbrev pub invariant-loop-i : goal.invariant-loop-i
invariant-loop-i l = record {
  len : length l.rows ≡ length l.fn.rows;
  bits : (a b : ℕ) → flow_has l.rows b a ≡ (flow_has l.fn.rows b a ||
      ((b == l.row) && (nat_lt (a / 64) l.i && flow_has l.words l.from a)));
}
