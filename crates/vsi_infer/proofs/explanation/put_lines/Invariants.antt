use Rattle.std.proofs.Common.{◌≡◌, ◌++◌, length, take}
use Rattle.std.specs.List.{flat_map}
use Rattle.vsi_infer.specs.Explanation.{step_line}
use Rattle.vsi_infer.proofs.explanation.put_lines.Given as goal

abbrev pub invariant-loop-step : goal.invariant-loop-step
invariant-loop-step l = l.text.items ≡ l.initial.text.items ++ flat_map (step_line l.source l.program)
    (take l.step-index l.steps)
