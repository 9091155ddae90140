use Rattle.std.proofs.Common.{[]}
use Rattle.vsi_machine.specs.Loops.{Enters}
use Rattle.vsi_machine.proofs.Updating.{Updated}
use Rattle.vsi_machine.proofs.loops.compare_with.Given as goal

abbrev pub invariant-loop-slot : goal.invariant-loop-slot
invariant-loop-slot l = Updated (Enters [] l.fn.entry) l.fn.entry l.entry l.slot
