use Rattle.std.proofs.Common.{◌+◌, ◌++◌, ◌∙◌, ap, sym, arith, cond, le-ltb}
use Rattle.vsi_types.specs.Security.{program}
use Rattle.vsi_report.specs.Drawn.{shown}
use Rattle.vsi_report.specs.FlowsGraph.{edge_lines, flows_by_step}
use Rattle.vsi_report.proofs.FlowsGraphLemmas.{rows_lines}
use Rattle.vsi_report.proofs.flows_graph.put_flows.Goals as goal

pub returns : goal.returns
returns c =
    let P = c.args.profile in
    let s = shown c.args.drawn.now in
    let p = program c.args.drawn.now.program.now in
    let last = c.args.last in
    c.in_ok-put_all_edges.ensures
    ∙ ap (λ l. c.args.text.now.items ++ l)
    (rows_lines s P p c.in_ok-flows.flows (last + 1) (omega (arith, c.requires.count)) c.in_ok-flows.ensures
    ∙ ap (λ x. edge_lines s (flows_by_step P p) (cond x 0 (last + 1)))
    (sym (le-ltb 200 last (omega (arith, c.if-last-gt-MOST_DRAWN.false)))))
