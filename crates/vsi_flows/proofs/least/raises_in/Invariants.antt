use Rattle.vsi_types.specs.Security.{program}
use Rattle.vsi_flows.proofs.ChangeLemmas.{AreSettled}
use Rattle.vsi_flows.proofs.least.raises_in.Given as goal

abbrev pub invariant-loop-variable : goal.invariant-loop-variable
invariant-loop-variable g l =
    AreSettled (g.C.Classes.lattice l.lattice) l.profile (program l.program) l.variable l.policy.items l.raises.items
