use Rattle.std.proofs.Common.{◌≡◌, arith}
use Rattle.vsi_image.specs.declared.instr.Instr.TheVariants.{Store}
use Rattle.vsi_machine.proofs.Updating.{forgotten, unforgotten, store_same}
use Rattle.vsi_machine.proofs.loops.forget_by.Goals as goal

pub returns-then-slot-entry : goal.returns-then-slot-entry
returns-then-slot-entry c = λ body facts e.
    rw (c.in-Store.is)
    (forgotten body facts c.args.entry.now c.in-Store.slot c.if-slot-entry.true e)

pub returns-else-slot-entry : goal.returns-else-slot-entry
returns-else-slot-entry c = λ body facts e.
    rw (c.in-Store.is)
    (unforgotten body (Store c.in-Store.slot) facts c.args.entry.now
    (λ k lt x. let same : c.in-Store.slot ≡ k = store_same c.in-Store.slot k x in
    omega (arith, lt, c.if-slot-entry.false)) e)

pub returns-in_default : goal.returns-in_default
returns-in_default c = λ body facts e.
    unforgotten body c.args.instr facts c.args.entry.now (λ k lt x. c.in_default.not-Store k x) e
