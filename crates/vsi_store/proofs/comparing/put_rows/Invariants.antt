use Rattle.std.proofs.Common.{◌≡◌, ◌++◌, drop}
use Rattle.vsi_image.specs.Fields.{globals}
use Rattle.vsi_lattice.specs.LatticeView.{class_named, order}
use Rattle.vsi_store.specs.Compare.{rows}
use Rattle.vsi_store.proofs.comparing.put_rows.Given as goal

-- The rows so far and the rows of the remaining globals are all rows.
abbrev pub invariant-loop-i : goal.invariant-loop-i
invariant-loop-i l =
    let known = class_named l.lattice in
    let L = order l.lattice in
    l.text.items ++ rows known L l.class (globals (drop l.i l.variables)) (drop l.i l.first) (drop l.i l.second)
    ≡ l.initial.text.items ++ rows known L l.class (globals l.variables) l.first l.second
