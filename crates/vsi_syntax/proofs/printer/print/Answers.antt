use Rattle.std.proofs.Common.{◌∙◌, []}
use Rattle.vsi_syntax.proofs.Canonical.{globals_at}
use Rattle.vsi_syntax.proofs.printer.print.Goals as goal

pub loop-g-preserved : goal.loop-g-preserved
loop-g-preserved c =
    c.in_ok-print_global.ensures ∙ globals_at c.globals-globals.result.now c.loop-g.g-index _ []
    c.loop-g.out.items c.loop-g-test.true c.loop-g.invariant
