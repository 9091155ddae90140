use Rattle.vsi_machine.specs.Loops.{Remains}
use Rattle.vsi_machine.proofs.Updating.{Updated}
use Rattle.vsi_machine.proofs.loops.leave.Given as goal

abbrev pub invariant-loop-k : goal.invariant-loop-k
invariant-loop-k l = Updated (Remains l.fn.facts l.entry l.turned l.fn.slot l.fn.last) l.fn.facts l.facts l.k
