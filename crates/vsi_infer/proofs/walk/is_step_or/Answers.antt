use Rattle.std.proofs.Common.{◌∙◌, sym}
use Rattle.vsi_types.specs.Security.{program, steps_of}
use Rattle.vsi_infer.proofs.KeptLemmas.{proposed_there}
use Rattle.vsi_infer.proofs.walk.is_step_or.Goals as goal

pub returns-then-same_step : goal.returns-then-same_step
returns-then-same_step c =
    sym (proposed_there (steps_of c.args.profile (program c.args.program.now)) c.args.step.now c.args.proposed
    c.requires (c.in-Some.other, c.in-Some.is, sym c.same_step.ensures ∙ c.if-same_step.true))
