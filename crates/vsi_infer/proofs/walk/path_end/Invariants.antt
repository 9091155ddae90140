use Rattle.std.proofs.Common.{take}
use Rattle.vsi_types.specs.Security.{program, steps_of}
use Rattle.vsi_infer.specs.Paths.{IsPath}
use Rattle.vsi_infer.proofs.walk.path_end.Given as goal

abbrev pub invariant-loop-step : goal.invariant-loop-step
invariant-loop-step l = IsPath (steps_of l.profile (program l.program)) l.fn.from (take l.step-index l.steps) l.at
