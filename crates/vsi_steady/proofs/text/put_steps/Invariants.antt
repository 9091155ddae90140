use Rattle.std.proofs.Common.{◌≡◌, ◌++◌, take}
use Rattle.std.specs.List.{flat_map}
use Rattle.vsi_image.specs.Fields.{globals}
use Rattle.vsi_steady.specs.Telling.{step_line}
use Rattle.vsi_steady.proofs.text.put_steps.Given as goal

abbrev pub invariant-loop-step : goal.invariant-loop-step
invariant-loop-step l =
    l.out.items ≡ l.fn.out.items ++ flat_map (step_line (globals l.image.globals.items)) (take l.step-index l.steps)
