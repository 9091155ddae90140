use Rattle.std.proofs.Common.{◌≡◌, ◌++◌}
use Rattle.std.specs.List.{flat_map}
use Rattle.vsi_types.specs.Security.{count_from}
use Rattle.vsi_report.specs.ByRule.{flows_in_rows}
use Rattle.vsi_report.specs.Drawn.{shown}
use Rattle.vsi_report.specs.FlowsGraph.{lines_between}
use Rattle.vsi_report.proofs.flows_graph.put_all_edges.Given as goal

-- The text has the lines of the sources so far.
abbrev pub invariant-loop-source : goal.invariant-loop-source
invariant-loop-source l =
    l.text.items ≡ l.initial.text.items
    ++ flat_map (λ a. flat_map (lines_between (shown l.drawn) (flows_in_rows l.flows) a) (count_from 0 l.count))
    (count_from 0 l.source)

-- The text also has the lines of the targets so far.
abbrev pub invariant-loop-target : goal.invariant-loop-target
invariant-loop-target l =
    l.text.items ≡ l.initial.text.items
    ++ flat_map (lines_between (shown l.drawn) (flows_in_rows l.flows) l.source) (count_from 0 l.target)
