use Rattle.std.specs.List.{All, Contains}
use Rattle.vsi_types.specs.Security.{program, steps_of}
use Rattle.vsi_infer.proofs.walk.steps_along.Given as goal

abbrev pub invariant-loop-step : goal.invariant-loop-step
invariant-loop-step l = All (Contains (steps_of l.fn.profile (program l.program))) l.known.items
