use Rattle.vsi_lattice.specs.LatticeView.{order}
use Rattle.vsi_lattice.specs.Order.{IsClass}
use Rattle.vsi_report.proofs.facts.reached_classes.Given as goal

-- The class so far is one of the lattice.
abbrev pub invariant-loop-number : goal.invariant-loop-number
invariant-loop-number l = IsClass (order l.lattice) l.class
