use Rattle.vsi_lattice.specs.LatticeView.{class_named, order}
use Rattle.vsi_steady.proofs.Sweeping.{Sweeping}
use Rattle.vsi_steady.proofs.check.sweep.Given as goal

abbrev pub invariant-loop-pc : goal.invariant-loop-pc
invariant-loop-pc l =
    Sweeping (class_named l.lattice) (order l.lattice) l.image l.fn.classes l.classes l.pc l.depth l.held l.has_risen
    l.flow
