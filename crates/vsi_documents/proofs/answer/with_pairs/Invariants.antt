use Rattle.std.proofs.Common.{◌≡◌, ◌++◌, drop, map}
use Rattle.serde_json.specs.View.{view}
use Rattle.vsi_image.specs.Fields.{globals}
use Rattle.vsi_lattice.specs.LatticeView.{class_named, order}
use Rattle.vsi_documents.specs.Words.{pair_objects}
use Rattle.vsi_documents.proofs.answer.with_pairs.Given as goal

-- The objects so far, and then those of the remaining globals.
abbrev pub invariant-loop-i : goal.invariant-loop-i
invariant-loop-i l =
    let known = class_named l.lattice in
    let L = order l.lattice in
    map view l.found
    ++ pair_objects known L l.to (globals (drop l.i l.variables)) (drop l.i l.first) (drop l.i l.second)
    ≡ pair_objects known L l.to (globals l.variables) l.first l.second
