use Rattle.vsi_lattice.specs.LatticeView.{class_named, order}
use Rattle.vsi_steady.proofs.First.{FirstClasses}
use Rattle.vsi_steady.proofs.check.first_classes.Given as goal

abbrev pub invariant-loop-i : goal.invariant-loop-i
invariant-loop-i l = FirstClasses (class_named l.lattice) (order l.lattice) l.globals l.i l.classes.items
