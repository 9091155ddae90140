use Rattle.vsi_machine.proofs.Operands.{Computes}
use Rattle.vsi_machine.proofs.Transferring.{Held}
use Rattle.vsi_machine.proofs.stretches.evaluate.Given as goal

abbrev pub invariant-loop-place : goal.invariant-loop-place
invariant-loop-place l = record {
  computes : Computes l.code l.facts l.start l.place l.operands.items;
  held : Held l.code l.facts l.start l.place l.operands.items;
}
