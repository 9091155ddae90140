use Rattle.std.proofs.Common.{◌≡◌, ◌++◌, take}
use Rattle.std.specs.List.{flat_map}
use Rattle.vsi_report.specs.FlowsGraph.{above_line}
use Rattle.vsi_report.proofs.dot.put_above.Given as goal

-- The text has the lines of the pairs so far.
abbrev pub invariant-loop-pair : goal.invariant-loop-pair
invariant-loop-pair l =
    l.text.items ≡ l.initial.text.items ++ flat_map above_line (take l.pair-index l.order.covers.items)
