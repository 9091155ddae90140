use Rattle.vsi_machine.proofs.Updating.{KeepsBefore}
use Rattle.vsi_machine.proofs.loops.keeps.Given as goal

abbrev pub invariant-loop-slot : goal.invariant-loop-slot
invariant-loop-slot l = KeepsBefore l.slot l.entry l.turned
