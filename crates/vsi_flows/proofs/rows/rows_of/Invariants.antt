use Rattle.std.proofs.Common.{◌≡◌, ◌+◌, ◌<◌, ℕ, [], map, length, get_or, Some}
use Rattle.vsi_types.specs.Security.{program}
use Rattle.vsi_types.specs.Walks.{declared_class}
use Rattle.vsi_infer.specs.Flowing.{variable_at}
use Rattle.vsi_infer.specs.FlowRows.{flow_has}
use Rattle.vsi_infer.specs.Distances.{AreLeast}
use Rattle.vsi_flows.proofs.rows.rows_of.Given as goal

abbrev pub invariant-loop-place : goal.invariant-loop-place
invariant-loop-place g l = record {
  count : length l.rows.items ≡ l.place;
  each : (b : ℕ) → b < length l.rows.items → (c : ℕ)
      → declared_class (g.C.Classes.lattice l.lattice) (program l.program) (variable_at l.last b) ≡ Some c
      → AreLeast (λ x y. flow_has l.flow.rows.items y x) (l.last + 1) b (get_or (map (λ r. r.items) l.rows.items) b []);
}
