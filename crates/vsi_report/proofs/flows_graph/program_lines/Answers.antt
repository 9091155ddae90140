use Rattle.vsi_lattice.specs.LatticeView.{order}
use Rattle.vsi_report.specs.FlowsGraph.{Shown}
use Rattle.vsi_report.specs.Graph.{texts}
use Rattle.vsi_report.proofs.FlowsGraphLemmas.{lines_so, program_lines_so}
use Rattle.vsi_report.proofs.flows_graph.program_lines.Goals as goal

pub returns : goal.returns
returns c =
    let l = c.args.lattice.now in
    let P = c.args.profile in
    let r = c.args.program.now in
    let o = c.in_ok-order.order in
    let judged = c.in_ok-judged.judged in
    let found = c.deref.result.now in
    let steps = c.deref-2.result.now in
    let s : Shown =
    record { names = texts o.names.items; lattice = order l; resolved = r; chosen = found; walk = steps } in
    program_lines_so l P r (texts o.names.items) judged.0.items found judged.1.items steps o.covers.items
    c.put_flows.new.text.items c.in_ok-order.ensures.names c.deref.ensures.value c.deref-2.ensures.value
    c.in_ok-judged.ensures c.in_ok-order.ensures.covers
    (lines_so P s o.covers.items c.declarations-last.result c.nodes_shown-count.result c.new-lines.result.items
    c.put_variables.new.text.items c.put_frame.new.text.items c.put_flows.new.text.items c.new-lines.ensures.items
    c.declarations-last.ensures.count c.nodes_shown-count.ensures c.in_ok-put_variables.ensures
    c.in_ok-put_frame.ensures c.in_ok-put_flows.ensures)
