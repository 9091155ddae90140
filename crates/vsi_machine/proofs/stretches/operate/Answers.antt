use Rattle.vsi_machine.proofs.Operands.{operated}
use Rattle.vsi_machine.proofs.Transferring.{taken}
use Rattle.vsi_machine.proofs.stretches.operate.Goals as goal

pub returns-clause-acts : goal.returns-clause-acts
returns-clause-acts c =
    operated c.args.op c.in-Some-pop.left c.in-Some.right c.applied.result _ _ _ _ c.in-Some.ensures.items
    c.in-Some-pop.ensures.items c.in_ok-push.ensures.items c.applied.ensures.means

pub returns-clause-takes : goal.returns-clause-takes
returns-clause-takes c =
    taken c.args.op c.in-Some-pop.left c.in-Some.right c.applied.result _ _ _ _ c.in-Some.ensures.items
    c.in-Some-pop.ensures.items c.in_ok-push.ensures.items c.applied.ensures.exact
