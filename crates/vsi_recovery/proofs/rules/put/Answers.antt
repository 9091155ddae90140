use Rattle.std.proofs.Common.{◌∙◌, arith}
use Rattle.vsi_recovery.proofs.Lists.{put_more}
use Rattle.vsi_recovery.proofs.rules.put.Goals as goal

pub loop-i-preserved : goal.loop-i-preserved
loop-i-preserved c =
    c.in_ok-push.ensures.items
    ∙ put_more c.args.ahead.now.items _ c.args.parts.now c.loop-i.i (omega arith) c.loop-i.invariant
