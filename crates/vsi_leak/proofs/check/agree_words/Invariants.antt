use Rattle.vsi_image.specs.Fields.{globals}
use Rattle.vsi_lattice.specs.LatticeView.{class_named, order}
use Rattle.vsi_leak.proofs.Agreement.{AgreeBefore}
use Rattle.vsi_leak.proofs.check.agree_words.Given as goal

-- The globals so far agree.
abbrev pub invariant-loop-i : goal.invariant-loop-i
invariant-loop-i l =
    AgreeBefore (class_named l.lattice) (order l.lattice) (globals l.variables) l.class l.first l.second l.i
