use Rattle.std.proofs.Common.{◌∙◌, length, ap}
use Rattle.vsi_infer.proofs.StartLemmas.{start_for, start_passes}
use Rattle.vsi_infer.proofs.walk.is_step.Goals as goal

pub pass_commands-requires : goal.pass_commands-requires
pass_commands-requires c =
    start_for c.args.program.now c.body-body.ensures.resolved c.first_numbers.result.items
    (length c.globals.result.now) c.letvars.result.now c.body-body.result.now
    c.first_numbers.ensures (ap length c.globals.ensures) c.letvars.ensures c.body-body.ensures.value

pub returns : goal.returns
returns c =
    c.pass_commands.ensures.answer
    ∙ start_passes c.args.program.now c.body-body.ensures.resolved c.first_numbers.result.items
    (length c.globals.result.now) c.letvars.result.now c.body-body.result.now
    c.first_numbers.ensures (ap length c.globals.ensures) c.letvars.ensures c.body-body.ensures.value
    c.args.step.now c.args.profile
