use Rattle.std.proofs.Common.{◌<◌, arith}
use Rattle.vsi_leak.proofs.Counts.{ordered, starts, takes}
use Rattle.vsi_leak.proofs.check.instructions_of.Goals as goal

pub loop-enough-init : goal.loop-enough-init
loop-enough-init c = (starts c.args.verified.now c.args.store.now, c.requires, omega arith)

pub overflow_sub-enough : goal.overflow_sub-enough
overflow_sub-enough c =
    let l = c.loop-enough in
    let lt : l.few < l.enough =
    ordered c.args.verified.now c.args.store.now l.few l.enough l.invariant.0 l.invariant.1 in
    omega (arith, lt)

pub returns-clause-taken : goal.returns-clause-taken
returns-clause-taken c =
    let l = c.loop-enough in
    takes c.args.verified.now c.args.store.now l.few l.enough l.invariant.0 l.invariant.1
    (omega (arith, c.loop-enough-test.false))
