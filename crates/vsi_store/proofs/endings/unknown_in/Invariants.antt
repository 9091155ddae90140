use Rattle.std.proofs.Common.{◌≡◌, drop}
use Rattle.vsi_image.specs.Fields.{globals}
use Rattle.vsi_lattice.specs.LatticeView.{class_named}
use Rattle.vsi_store.specs.View.{first_unknown}
use Rattle.vsi_store.proofs.endings.unknown_in.Given as goal

-- The first among the remaining globals is the first of all.
abbrev pub invariant-loop-i : goal.invariant-loop-i
invariant-loop-i l =
    first_unknown (class_named l.lattice) l.i (globals (drop l.i l.variables))
    ≡ first_unknown (class_named l.lattice) 0 (globals l.variables)
