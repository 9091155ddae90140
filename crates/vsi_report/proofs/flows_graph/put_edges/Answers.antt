use Rattle.vsi_types.specs.declared.rules.Rule.TheVariants.{Assign, If, While, Letvar, Loop}
use Rattle.vsi_report.specs.ByRule.{flows_in_rows}
use Rattle.vsi_report.specs.Drawn.{shown}
use Rattle.vsi_report.specs.FlowsGraph.{line_by}
use Rattle.vsi_report.proofs.FlowsGraphLemmas.{added_five}
use Rattle.vsi_report.proofs.flows_graph.put_edges.Goals as goal

pub returns : goal.returns
returns c =
    let line = line_by (shown c.args.drawn.now) (flows_in_rows c.args.flows.now) c.args.source c.args.target in
    added_five c.args.text.now.items c.put_edge_by.new.text.items c.put_edge_by-2.new.text.items
    c.put_edge_by-3.new.text.items c.put_edge_by-4.new.text.items c.put_edge_by-5.new.text.items (line Assign)
    (line If)
    (line While) (line Letvar) (line Loop) c.in_ok-put_edge_by.ensures c.in_ok-put_edge_by-2.ensures
    c.in_ok-put_edge_by-3.ensures c.in_ok-put_edge_by-4.ensures c.in_ok-put_edge_by-5.ensures
