use Rattle.std.proofs.Common.{◌≡◌, ◌++◌}
use Rattle.std.specs.List.{flat_map}
use Rattle.vsi_types.specs.Security.{count_from}
use Rattle.vsi_report.specs.Drawn.{shown}
use Rattle.vsi_report.specs.FlowsGraph.{kept_line, points_line}
use Rattle.vsi_report.proofs.dot.put_frame.Given as goal

-- The text has the lines of the classes so far.
abbrev pub invariant-loop-class : goal.invariant-loop-class
invariant-loop-class l = l.text.items ≡ l.initial.text.items ++ flat_map points_line (count_from 0 l.class)

-- The text has the lines of the numbers so far.
abbrev pub invariant-loop-number : goal.invariant-loop-number
invariant-loop-number l =
    l.text.items ≡ l.initial.text.items ++ flat_map (kept_line (shown l.drawn)) (count_from 0 l.number)
