use Rattle.std.proofs.Common.{◌≡◌, ◌++◌}
use Rattle.std.specs.List.{flat_map}
use Rattle.vsi_types.specs.Security.{count_from}
use Rattle.vsi_report.specs.Graph.{node_line, texts}
use Rattle.vsi_report.proofs.dot.put_classes.Given as goal

-- The text has the lines of the classes so far.
abbrev pub invariant-loop-class : goal.invariant-loop-class
invariant-loop-class l =
    l.text.items ≡ l.initial.text.items ++ flat_map (node_line (texts l.order.names.items)) (count_from 0 l.class)
