use Rattle.std.proofs.Common.{◌∙◌, length, sym, ap, subst}
use Rattle.vsi_scope.specs.View.{sequence}
use Rattle.vsi_types.specs.Steps.{steps}
use Rattle.vsi_types.specs.Security.{name_place, program, steps_of}
use Rattle.vsi_types.proofs.Places.{place}
use Rattle.vsi_infer.specs.FirstSteps.{HasRoom, kept_of}
use Rattle.vsi_infer.proofs.StartLemmas.{start_room, start_steps}
use Rattle.vsi_infer.proofs.KeptLemmas.{from_start}
use Rattle.vsi_infer.proofs.gathering.gather.Goals as goal

pub gather_commands-requires : goal.gather_commands-requires
gather_commands-requires g c =
    subst (λ gs. HasRoom (length c.globals.result.now) (length c.letvars-2.result.now)
    (place c.in_ok-first_variables.field-0.items gs (length c.globals.result.now))
    (sequence c.body-body.result.now)) (sym c.new.ensures.items)
    (start_room c.args.program.now c.body-body.ensures.resolved c.in_ok-first_variables.field-0.items
    (length c.globals.result.now) c.letvars-2.result.now c.body-body.result.now
    c.in_ok-first_variables.ensures (ap length c.globals.ensures) c.letvars-2.ensures c.body-body.ensures.value)

pub returns : goal.returns
returns g c =
    let n = length c.globals.result.now in
    let ls = c.letvars-2.result.now in
    let body = c.body-body.result.now in
    let scope = c.in_ok-first_variables.field-0.items in
    let e = ap (λ gs. steps c.args.profile (name_place ls n) gs scope n (sequence body)) c.new.ensures.items
    ∙ start_steps c.args.program.now c.body-body.ensures.resolved scope n ls body c.in_ok-first_variables.ensures
    (ap length c.globals.ensures) c.letvars-2.ensures c.body-body.ensures.value c.args.profile in
    from_start (g.W.Wanted.wants c.args.wanted.now)
    (steps c.args.profile (name_place ls n) c.new.result.items scope n (sequence body))
    (steps_of c.args.profile (program c.args.program.now)) (kept_of c.in_ok-log.log)
    (kept_of c.gather_commands.new.log) c.args.every e c.in_ok-log.ensures.kept c.in_ok-log.ensures.every
    c.in_ok-gather_commands.ensures.1.kept
