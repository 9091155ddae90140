use Rattle.vsi_types.specs.Security.{program}
use Rattle.vsi_flows.proofs.RaiseRowLemmas.{AreFirstFloors}
use Rattle.vsi_flows.proofs.least.floors.Given as goal

abbrev pub invariant-loop-v : goal.invariant-loop-v
invariant-loop-v g l = AreFirstFloors (g.C.Classes.lattice l.lattice) (program l.program) l.v l.floors.items
