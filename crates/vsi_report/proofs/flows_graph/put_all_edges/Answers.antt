use Rattle.std.proofs.Common.{◌≡◌, ◌++◌, ◌∙◌, ap, arith}
use Rattle.std.specs.List.{flat_map}
use Rattle.vsi_types.specs.Security.{count_from}
use Rattle.vsi_report.specs.ByRule.{flows_in_rows}
use Rattle.vsi_report.specs.Drawn.{shown}
use Rattle.vsi_report.specs.FlowsGraph.{lines_between}
use Rattle.vsi_report.proofs.FlowsGraphLemmas.{more_lines}
use Rattle.vsi_report.proofs.flows_graph.put_all_edges.Goals as goal

pub loop-target-preserved : goal.loop-target-preserved
loop-target-preserved c =
    more_lines (lines_between (shown c.args.drawn.now) (flows_in_rows c.args.flows.now) c.loop-source.source)
    c.loop-source.text.items c.loop-target.text.items c.put_edges.new.text.items c.loop-target.target
    c.loop-target.invariant c.in_ok-put_edges.ensures

pub loop-source-preserved : goal.loop-source-preserved
loop-source-preserved c =
    let all : c.loop-target.target ≡ c.args.count = omega (arith, c.loop-target-test.false) in
    more_lines
    (λ a. flat_map (lines_between (shown c.args.drawn.now) (flows_in_rows c.args.flows.now) a)
    (count_from 0 c.args.count))
    c.args.text.now.items c.loop-source.text.items c.loop-target.text.items c.loop-source.source
    c.loop-source.invariant
    (c.loop-target.invariant
    ∙ ap (λ n. c.loop-source.text.items
    ++ flat_map (lines_between (shown c.args.drawn.now) (flows_in_rows c.args.flows.now) c.loop-source.source)
    (count_from 0 n))
    all)
