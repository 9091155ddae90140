use Rattle.std.proofs.Common.{◌∙◌}
use Rattle.vsi_syntax.proofs.Canonical.{spaces_more}
use Rattle.vsi_syntax.proofs.printer.put_spaces.Goals as goal

pub loop-preserved : goal.loop-preserved
loop-preserved c = c.in_ok-extend_from_slice.ensures.items ∙ spaces_more c.loop.counter c.args.out.now.items
    c.loop.out.items c.loop.invariant
