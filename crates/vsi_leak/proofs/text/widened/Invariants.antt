use Rattle.std.proofs.Common.{◌≡◌, drop, max}
use Rattle.vsi_image.specs.Fields.{globals}
use Rattle.vsi_lattice.specs.LatticeView.{class_named, order}
use Rattle.vsi_leak.specs.Texts.{left_cells, longest}
use Rattle.vsi_leak.proofs.text.widened.Given as goal

-- The longest cell is among those visited or those that remain.
abbrev pub invariant-loop-i : goal.invariant-loop-i
invariant-loop-i l =
    let known = class_named l.lattice in
    let L = order l.lattice in
    max l.widest
    (longest (left_cells known L l.to (globals (drop l.i l.variables)) (drop l.i l.first) (drop l.i l.second)))
    ≡ max l.width (longest (left_cells known L l.to (globals l.variables) l.first l.second))
