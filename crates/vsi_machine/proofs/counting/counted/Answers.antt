use Rattle.std.proofs.Common.{sym, ap, arith}
use Rattle.std.specs.Prelude.{if◌then◌else◌}
use Rattle.vsi_machine.specs.declared.interpreter.Outcome.TheVariants.{Halted, OutOfBudget}
use Rattle.vsi_machine.proofs.Counts.{is_counted}
use Rattle.vsi_machine.proofs.counting.counted.Goals as goal

pub overflow_add-result : goal.overflow_add-result
overflow_add-result c =
    omega (arith, c.in-Some.ensures.within, c.singly-more.ensures.within, c.ranges.budget.fits)

pub returns-clause-state : goal.returns-clause-state
returns-clause-state c =
    (is_counted c.args.verified.now c.args.words.now c.args.budget _ _ c.in-Some.ensures.within _ _ _ _ _ _
    c.in_ok-machine.ensures.image c.in_ok-machine.ensures.state c.in_ok-mark.ensures.image
    c.slices.ensures.same c.in-Some.ensures.marked c.in-Some.ensures.going c.in-Some.ensures.halts
    c.singly-more.ensures.state c.singly-more.ensures.each c.singly-more.ensures.ends).state

pub returns-clause-outcome : goal.returns-clause-outcome
returns-clause-outcome c =
    sym (ap (λ b. if b then Halted else OutOfBudget)
    (is_counted c.args.verified.now c.args.words.now c.args.budget _ _ c.in-Some.ensures.within _ _ _ _ _ _
    c.in_ok-machine.ensures.image c.in_ok-machine.ensures.state c.in_ok-mark.ensures.image
    c.slices.ensures.same c.in-Some.ensures.marked c.in-Some.ensures.going c.in-Some.ensures.halts
    c.singly-more.ensures.state c.singly-more.ensures.each c.singly-more.ensures.ends).halted)

pub returns-clause-exact : goal.returns-clause-exact
returns-clause-exact c = λ _.
    (is_counted c.args.verified.now c.args.words.now c.args.budget _ _ c.in-Some.ensures.within _ _ _ _ _ _
    c.in_ok-machine.ensures.image c.in_ok-machine.ensures.state c.in_ok-mark.ensures.image
    c.slices.ensures.same c.in-Some.ensures.marked c.in-Some.ensures.going c.in-Some.ensures.halts
    c.singly-more.ensures.state c.singly-more.ensures.each c.singly-more.ensures.ends).exact
