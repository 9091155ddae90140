use Rattle.vsi_lattice.specs.LatticeView.{order}
use Rattle.vsi_types.specs.Security.{program}
use Rattle.vsi_flows.specs.Related.{IsTarget}
use Rattle.vsi_flows.proofs.RelatedLists.{AreFirst}
use Rattle.vsi_flows.proofs.relating.targets.Given as goal

-- The list has the targets at the positions so far.
abbrev pub invariant-loop-place : goal.invariant-loop-place
invariant-loop-place l =
    AreFirst (IsTarget (order l.source.lattice) l.profile (program l.source.resolved) l.variable) l.last l.place
    l.found.items
