use Rattle.std.proofs.Common.{◌≡◌, drop}
use Rattle.vsi_image.specs.Fields.{globals}
use Rattle.vsi_lattice.specs.LatticeView.{class_named, order}
use Rattle.vsi_store.specs.Compare.{agree_in}
use Rattle.vsi_requests.proofs.stepping.agree.Given as goal

-- If all globals before are alike, the remaining ones decide.
abbrev pub invariant-loop-i : goal.invariant-loop-i
invariant-loop-i l =
    let known = class_named l.lattice in
    let L = order l.lattice in
    agree_in known L l.class (globals (drop l.i l.variables)) (drop l.i l.first) (drop l.i l.second)
    ≡ agree_in known L l.class (globals l.variables) l.first l.second
