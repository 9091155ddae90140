use Rattle.std.proofs.Common.{◌∙◌, ap}
use Rattle.std.specs.Prelude.{codes}
use Rattle.vsi_report.specs.Graph.{graph}
use Rattle.vsi_report.proofs.flows_graph.flows_dot.Goals as goal

pub returns-clause-graph : goal.returns-clause-graph
returns-clause-graph c =
    record {
      lines = c.in_ok-lines.lines.items;
      of_flows = c.in_ok-lines.ensures.lines;
      whole = c.in_ok-graph_text.ensures ∙ ap (graph (codes "flows")) c.deref.ensures.value;
    }
