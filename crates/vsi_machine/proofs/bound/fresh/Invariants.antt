use Rattle.vsi_machine.specs.Facts.{AreSame}
use Rattle.vsi_machine.proofs.bound.fresh.Given as goal

abbrev pub invariant-loop-slot : goal.invariant-loop-slot
invariant-loop-slot l = AreSame l.slot l.facts.items
