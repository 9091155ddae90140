use Rattle.std.proofs.Common.{arith}
use Rattle.std.proofs.lemmas.Int.{ints}
use Rattle.vsi_machine.proofs.CountingUp.{up_turns, up_wraps}
use Rattle.vsi_machine.proofs.loops.turns_up.Goals as goal

pub returns-clause-counts : goal.returns-clause-counts
returns-clause-counts c =
    let e = c.cover-turns.ensures in
    let small = e.small in
    up_turns c.cover-turns.result.0 _ c.cover-turns.result.1 _ c.args.start c.args.step c.args.limit _
    e.way e.enough e.fewest c.ranges.start
    (omega (arith, ints)) (omega (arith, ints)) (omega (arith, ints)) (omega (arith, ints))

pub returns-then-last-clause-fails : goal.returns-then-last-clause-fails
returns-then-last-clause-fails c =
    let e = c.cover-turns.ensures in
    let small = e.small in
    up_wraps c.cover-turns.result.0 _ c.cover-turns.result.1 _ c.args.start c.args.step c.args.limit
    e.way e.fewest e.some (omega (arith, ints)) (omega (arith, ints)) (omega (arith, ints))
