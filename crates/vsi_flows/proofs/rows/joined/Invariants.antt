use Rattle.vsi_flows.specs.Reaching.{IsJoined}
use Rattle.vsi_flows.proofs.rows.joined.Given as goal

abbrev pub invariant-loop-a : goal.invariant-loop-a
invariant-loop-a g l = IsJoined (g.C.Classes.lattice l.lattice) l.floors l.row l.a l.class
