use Rattle.vsi_infer.specs.Ranks.{distance}
use Rattle.vsi_lattice.specs.LatticeView.{class_named, order}
use Rattle.vsi_steady.specs.Least.{AreLeast}
use Rattle.vsi_steady.specs.Steady.{HaveClasses}
use Rattle.vsi_steady.proofs.check.settle.Given as goal

abbrev pub invariant-loop-swept : goal.invariant-loop-swept
invariant-loop-swept l =
    HaveClasses (class_named l.lattice) (order l.lattice) l.image l.classes
    × AreLeast (class_named l.lattice) (order l.lattice) l.image l.classes

abbrev pub decreases-loop-swept : goal.decreases-loop-swept
decreases-loop-swept l = distance (order l.lattice).leq (order l.lattice).count l.classes
