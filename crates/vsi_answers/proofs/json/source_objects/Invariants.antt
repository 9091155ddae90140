use Rattle.std.proofs.Common.{◌≡◌, ◌++◌, drop, map}
use Rattle.serde_json.specs.View.{view}
use Rattle.vsi_answers.specs.Json.{step_objects}
use Rattle.vsi_answers.proofs.json.source_objects.Given as goal

-- The objects so far, and then those of the remaining steps.
abbrev pub invariant-loop-step : goal.invariant-loop-step
invariant-loop-step l =
    map view l.found ++ step_objects l.text l.program (drop l.step-index l.steps)
    ≡ step_objects l.text l.program l.steps
