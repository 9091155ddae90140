use Rattle.std.proofs.Common.{arith}
use Rattle.std.proofs.lemmas.Int.{ints}
use Rattle.vsi_machine.proofs.CountingUp.{fits_below}
use Rattle.vsi_machine.proofs.loops.lowered.Goals as goal

pub overflow_cast-result : goal.overflow_cast-result
overflow_cast-result c =
    fits_below _ c.args.start c.ranges.start (omega (arith, ints)) (omega (arith, ints))
