use Rattle.std.proofs.Common.{◌≡◌, ◌++◌, drop}
use Rattle.vsi_image.specs.Fields.{globals}
use Rattle.vsi_lattice.specs.LatticeView.{class_named, order}
use Rattle.vsi_store.specs.View.{view_text_of}
use Rattle.vsi_store.proofs.endings.seen_text.Given as goal

-- The lines so far and the lines of the remaining globals are all lines.
abbrev pub invariant-loop-i : goal.invariant-loop-i
invariant-loop-i l =
    let known = class_named l.lattice in
    let L = order l.lattice in
    l.text.items ++ view_text_of known L l.class (globals (drop l.i l.variables)) (drop l.i l.words)
    ≡ view_text_of known L l.class (globals l.variables) l.words
