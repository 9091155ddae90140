use Rattle.std.proofs.Common.{◌≡◌, ◌++◌, drop, map}
use Rattle.serde_json.specs.View.{view}
use Rattle.vsi_documents.specs.Steps as steps
use Rattle.vsi_documents.proofs.refusal.flow_objects.Given as goal

-- The objects so far, and then those of the remaining steps.
abbrev pub invariant-loop-step : goal.invariant-loop-step
invariant-loop-step l =
    map view l.found ++ steps.step_objects l.uri l.text l.program (drop l.step-index l.steps)
    ≡ steps.step_objects l.uri l.text l.program l.steps
