use Rattle.std.proofs.Common.{◌≡◌, ◌<◌, ◌≤◌, ℕ, None, get_or}
use Rattle.std.specs.Prelude.{IfSome}
use Rattle.vsi_lattice.specs.Order.{Below}
use Rattle.vsi_flows.specs.Reaching.{IsOver}
use Rattle.vsi_flows.proofs.rows.nearest_over.Given as goal

abbrev pub invariant-loop-a : goal.invariant-loop-a
invariant-loop-a g l = record {
  some : IfSome l.nearest (IsOver (g.C.Classes.lattice l.lattice) l.floors l.row l.class);
  none : l.nearest ≡ None → l.distance ≡ 65535;
  small : l.distance ≤ 65535;
  before : (v : ℕ) → v < l.a → get_or l.row v 0 < l.distance
      → Below (g.C.Classes.lattice l.lattice) (get_or l.floors v 0) l.class;
}
