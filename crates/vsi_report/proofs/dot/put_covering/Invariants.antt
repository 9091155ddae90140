use Rattle.std.proofs.Common.{◌≡◌, ◌++◌, take}
use Rattle.std.specs.List.{flat_map}
use Rattle.vsi_report.specs.Graph.{edge_line, texts}
use Rattle.vsi_report.proofs.dot.put_covering.Given as goal

-- The text has the lines of the pairs so far.
abbrev pub invariant-loop-pair : goal.invariant-loop-pair
invariant-loop-pair l =
    l.text.items ≡ l.initial.text.items
    ++ flat_map (edge_line (texts l.order.names.items)) (take l.pair-index l.order.covers.items)
