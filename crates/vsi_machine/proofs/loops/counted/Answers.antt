use Rattle.std.proofs.Common.{arith}
use Rattle.std.proofs.lemmas.Int.{ints}
use Rattle.vsi_machine.proofs.CountingUp.{counted_up, counted_down, uncounted_up, uncounted_down}
use Rattle.vsi_machine.proofs.loops.counted.Goals as goal

pub returns-then-up-clause-counts : goal.returns-then-up-clause-counts
returns-then-up-clause-counts c =
    counted_up c.turns_up.result c.args.up c.args.limit _ c.args.step _ c.args.start _ c.turns_up.ensures.counts
    c.if-up.true (omega (arith, ints)) (omega (arith, ints)) (omega (arith, ints))

pub returns-then-up-clause-fails : goal.returns-then-up-clause-fails
returns-then-up-clause-fails c =
    uncounted_up c.turns_up.result c.args.up c.args.limit _ c.args.step _ c.args.start _ c.turns_up.ensures.fails
    c.if-up.true (omega (arith, ints)) (omega (arith, ints)) (omega (arith, ints))

pub returns-else-up-clause-counts : goal.returns-else-up-clause-counts
returns-else-up-clause-counts c =
    counted_down c.turns_down.result c.args.up c.args.limit _ c.args.step _ c.args.start _
    c.turns_down.ensures.counts c.if-up.false (omega (arith, ints)) (omega (arith, ints)) (omega (arith, ints))

pub returns-else-up-clause-fails : goal.returns-else-up-clause-fails
returns-else-up-clause-fails c =
    uncounted_down c.turns_down.result c.args.up c.args.limit _ c.args.step _ c.args.start _
    c.turns_down.ensures.fails c.if-up.false (omega (arith, ints)) (omega (arith, ints)) (omega (arith, ints))
