use Rattle.std.proofs.Common.{arith, length, ◌<◌}
use Rattle.std.proofs.lemmas.Int.{ints}
use Rattle.std.proofs.lemmas.Option.{slice_get-get_or}
use Rattle.vsi_machine.proofs.Operands.{acts_push, acts_load}
use Rattle.vsi_machine.proofs.Transferring.{puts_push, puts_load}
use Rattle.vsi_machine.proofs.stretches.put.Goals as goal

pub returns-in_ok-push-in-Push-clause-acts : goal.returns-in_ok-push-in-Push-clause-acts
returns-in_ok-push-in-Push-clause-acts c =
    rw (c.in-Push.is)
    (acts_push c.in-Push.n _ c.args.facts.now _ _ c.in_ok-push-in-Push.ensures.items (omega (arith, ints)))

pub returns-in_ok-push-in-Push-clause-puts : goal.returns-in_ok-push-in-Push-clause-puts
returns-in_ok-push-in-Push-clause-puts c =
    rw (c.in-Push.is)
    (puts_push c.in-Push.n _ c.args.facts.now _ _ c.in_ok-push-in-Push.ensures.items (omega (arith, ints)))

pub returns-in_ok-push-in-Load-clause-acts : goal.returns-in_ok-push-in-Load-clause-acts
returns-in_ok-push-in-Load-clause-acts c =
    let lt : c.in-Load.slot < length c.args.facts.now = omega (arith, c.if-slot-facts.false) in
    rw (c.in-Load.is) (acts_load c.in-Load.slot _ c.args.facts.now _ _ c.in_ok-push-in-Load.ensures.items
    (slice_get-get_or c.args.facts.now c.in-Load.slot _ lt) lt)

pub returns-in_ok-push-in-Load-clause-puts : goal.returns-in_ok-push-in-Load-clause-puts
returns-in_ok-push-in-Load-clause-puts c =
    let lt : c.in-Load.slot < length c.args.facts.now = omega (arith, c.if-slot-facts.false) in
    rw (c.in-Load.is) (puts_load c.in-Load.slot _ c.args.facts.now _ _ c.in_ok-push-in-Load.ensures.items
    (slice_get-get_or c.args.facts.now c.in-Load.slot _ lt))
