use Rattle.vsi_lattice.specs.LatticeView.{order}
use Rattle.vsi_types.specs.Security.{program}
use Rattle.vsi_flows.specs.Related.{IsSource}
use Rattle.vsi_flows.proofs.RelatedLists.{AreFirst}
use Rattle.vsi_flows.proofs.relating.sources.Given as goal

-- The list has the sources at the positions so far.
abbrev pub invariant-loop-place : goal.invariant-loop-place
invariant-loop-place l =
    AreFirst (IsSource (order l.source.lattice) l.fn.profile (program l.source.resolved) l.variable) l.last l.place
    l.found.items
