use Rattle.std.proofs.Common.{arith}
use Rattle.vsi_answers.proofs.Marks.{stamped_past, stamped_within}
use Rattle.vsi_answers.proofs.loops.put_stamp.Goals as goal

pub returns-then-place-len : goal.returns-then-place-len
returns-then-place-len c =
    stamped_within c.args.stamps.now.items c.args.location c.args.stamp
    (omega (arith, c.if-place-len.true, c.len.ensures, c.args.stamps.now.ok.0))

pub returns : goal.returns
returns c =
    stamped_past c.args.stamps.now.items _ _ c.args.stamps.now.len c.args.location c.args.stamp
    (omega (arith, c.args.stamps.now.ok.0)) (omega (arith, c.if-place-len.false, c.len.ensures))
    c.in_ok-resize.ensures.items c.in_ok-push.ensures.items
