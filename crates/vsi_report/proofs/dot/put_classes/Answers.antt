use Rattle.std.proofs.Common.{refl}
use Rattle.vsi_report.specs.Graph.{node_line, texts}
use Rattle.vsi_report.proofs.FlowsGraphLemmas.{more_lines}
use Rattle.vsi_report.proofs.dot.put_classes.Goals as goal

pub loop-class-preserved : goal.loop-class-preserved
loop-class-preserved c =
    more_lines (node_line (texts c.args.order.now.names.items)) c.args.text.now.items c.loop-class.text.items
    c.fill.new.page.items c.loop-class.class c.loop-class.invariant
    (rw (c.name_of.ensures, c.colour.ensures) at (c.in_ok-fill.ensures refl))
