use Rattle.std.proofs.Common.{◌≡◌, ◌++◌, take}
use Rattle.std.specs.List.{flat_map}
use Rattle.vsi_image.specs.Fields.{globals}
use Rattle.vsi_audit.specs.Telling.{step_line}
use Rattle.vsi_audit.proofs.flow.put_steps.Given as goal

abbrev pub invariant-loop-step : goal.invariant-loop-step
invariant-loop-step l = l.out.items ≡ l.initial.out.items ++ flat_map
    (step_line (globals l.names.globals.now) l.names.form) (take l.step-index l.steps)
