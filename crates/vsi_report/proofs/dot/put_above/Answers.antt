use Rattle.std.proofs.Common.{refl, rules}
use Rattle.vsi_report.specs.FlowsGraph.{above_line}
use Rattle.vsi_report.proofs.FlowsGraphLemmas.{more_items}
use Rattle.vsi_report.proofs.dot.put_above.Goals as goal

pub loop-pair-preserved : goal.loop-pair-preserved
loop-pair-preserved c =
    more_items above_line c.args.order.now.covers.items c.args.text.now.items c.loop-pair.text.items
    c.fill.new.page.items c.loop-pair.pair-index (0, 0) (search rules) c.loop-pair.invariant
    (rw (c.deref-pair-items.ensures.value) at (c.in_ok-fill.ensures refl))
