use Rattle.std.proofs.Common.{arith}
use Rattle.vsi_drive.proofs.Numbers.{past}
use Rattle.vsi_drive.proofs.settings.number_up_to.Goals as goal

pub returns-then-sum-limit-clause-number : goal.returns-then-sum-limit-clause-number
returns-then-sum-limit-clause-number c =
    past c.args.limit c.loop-rest.value c.loop-rest.rest.now c.args.digits.now c.loop-rest.invariant.so_far
    (omega arith) (omega arith)
