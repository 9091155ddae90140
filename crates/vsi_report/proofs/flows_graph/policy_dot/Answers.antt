use Rattle.std.proofs.Common.{◌∙◌, ap, refl}
use Rattle.std.specs.Prelude.{codes}
use Rattle.vsi_report.specs.FlowsGraph.{joined}
use Rattle.vsi_report.specs.Graph.{graph}
use Rattle.vsi_report.proofs.flows_graph.policy_dot.Goals as goal

pub returns-clause-graph : goal.returns-clause-graph
returns-clause-graph c =
    let both = rw (c.new-both.ensures.items) at (c.in_ok-fill.ensures refl) in
    record {
      classes = c.in_ok-classes.classes.items;
      of_classes = c.in_ok-classes.ensures;
      flows = c.in_ok-flows_lines.field-0.items;
      of_flows = c.in_ok-flows_lines.ensures.lines;
      whole =
          c.in_ok-graph_text.ensures ∙ ap (graph (codes "policy")) (c.deref-3.ensures.value ∙ both)
          ∙ ap (λ x. joined x c.deref-2.result.now) c.deref.ensures.value
          ∙ ap (joined c.in_ok-classes.classes.items) c.deref-2.ensures.value;
    }
