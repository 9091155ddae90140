use Rattle.std.proofs.Common.{◌∙◌, sym, subst, map, arith}
use Rattle.std.proofs.lemmas.List.{take_all}
use Rattle.vsi_types.specs.Steps.{AreInOrder}
use Rattle.vsi_types.specs.Checking.{step_at}
use Rattle.vsi_types.specs.Security.{class_of}
use Rattle.vsi_types.proofs.Judging.{guards_more, guards_fault}
use Rattle.vsi_types.proofs.walker.check_guards.Goals as goal

pub returns-then-not-may_flow : goal.returns-then-not-may_flow
returns-then-not-may_flow g c =
    let L = g.C.Classes.lattice c.args.lattice.now in
    guards_fault L (class_of L c.args.table.now) c.args.target c.args.guards.now c.loop-g.g-index c.g-item.result
    c.loop-g-test.true c.g-item.is (sym c.may_flow.ensures ∙ c.if-not-may_flow.true) c.loop-g.invariant

pub loop-g-preserved : goal.loop-g-preserved
loop-g-preserved g c =
    let L = g.C.Classes.lattice c.args.lattice.now in
    guards_more L (class_of L c.args.table.now) c.args.target c.args.guards.now c.loop-g.g-index c.g-item.result
    c.loop-g-test.true c.g-item.is (sym c.may_flow.ensures ∙ c.if-not-may_flow.false) c.loop-g.invariant

pub returns : goal.returns
returns g c = λ written.
    let L = g.C.Classes.lattice c.args.lattice.now in
    subst (λ gs. AreInOrder L (class_of L c.args.table.now) (map (step_at c.args.target written) gs))
    (take_all c.loop-g.g-index c.args.guards.now (omega arith)) (c.loop-g.invariant written)
