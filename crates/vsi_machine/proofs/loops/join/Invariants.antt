use Rattle.vsi_machine.specs.Loops.{Meets}
use Rattle.vsi_machine.proofs.Updating.{Updated}
use Rattle.vsi_machine.proofs.loops.join.Given as goal

abbrev pub invariant-loop-slot : goal.invariant-loop-slot
invariant-loop-slot l = Updated (Meets l.fn.facts l.other) l.fn.facts l.facts l.slot
