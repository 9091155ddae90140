use Rattle.std.proofs.Common.{List, [], take}
use Rattle.vsi_machine.specs.declared.loops.Known.{Known}
use Rattle.vsi_machine.specs.Loops.{IsEntry}
use Rattle.vsi_machine.proofs.loops.forget_stored.Given as goal

abbrev pub invariant-loop-instr : goal.invariant-loop-instr
invariant-loop-instr l =
    (facts : List Known) → IsEntry [] facts l.fn.entry → IsEntry (take l.instr-index l.code) facts l.entry
