use Rattle.vsi_machine.proofs.Ending.{always_halts_as}
use Rattle.vsi_machine.proofs.Searching.{answers_stop}
use Rattle.vsi_machine.proofs.bound.bound_of.Goals as goal

pub returns-in-Ok : goal.returns-in-Ok
returns-in-Ok c =
    always_halts_as c.args.image.now _ c.in-Ok.cost c.image.ensures.same c.image.ensures.valid c.in-Ok.ensures.ends

pub returns-in-Err-Endless : goal.returns-in-Err-Endless
returns-in-Err-Endless c =
    answers_stop c.args.image.now c.image.result.now c.in-Err-Endless.field-0 _ _ c.image.ensures.same
    c.in-Err-Endless.field-0-is c.in-Err-Endless.ensures.stops
