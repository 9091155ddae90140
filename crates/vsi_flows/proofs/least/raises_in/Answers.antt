use Rattle.std.proofs.Common.{◌≡◌, ℕ, Some, None, subst, arith}
use Rattle.vsi_lattice.specs.Order.{IsLattice}
use Rattle.vsi_types.specs.Security.{program}
use Rattle.vsi_types.proofs.Tables.{resolved_program}
use Rattle.vsi_infer.specs.Flowing.{size_of}
use Rattle.vsi_infer.specs.FlowRows.{flow_has}
use Rattle.vsi_flows.specs.Reaching.{IsSettled}
use Rattle.vsi_flows.proofs.ChangeLemmas.{settled_start, settled_none, settled_some, settled_all}
use Rattle.vsi_flows.proofs.least.raises_in.Goals as goal

pub loop-variable-init : goal.loop-variable-init
loop-variable-init g c =
    settled_start (g.C.Classes.lattice c.args.lattice.now) c.args.profile (program c.args.program.now) _ _
    c.new-policy.ensures.items c.new-raises.ensures.items

pub loop-variable-preserved-in_default-change : goal.loop-variable-preserved-in_default-change
loop-variable-preserved-in_default-change g c =
    let L = g.C.Classes.lattice c.args.lattice.now in
    let p = program c.args.program.now in
    settled_none L c.args.profile p c.loop-variable.variable c.in_ok-settled.settled.0 c.loop-variable.policy.items _
    c.loop-variable.raises.items c.loop-variable.invariant c.in_ok-push.ensures.items
    (subst (IsSettled L c.args.profile p c.loop-variable.variable c.in_ok-settled.settled.0) c.in_default-change.is
    c.in_ok-settled.ensures)

pub loop-variable-preserved : goal.loop-variable-preserved
loop-variable-preserved g c =
    let L = g.C.Classes.lattice c.args.lattice.now in
    let p = program c.args.program.now in
    settled_some L c.args.profile p c.loop-variable.variable c.in_ok-settled.settled.0 c.loop-variable.policy.items _
    c.loop-variable.raises.items c.loop-variable.invariant c.in_ok-push.ensures.items c.in-Some-change.raise _
    (subst (IsSettled L c.args.profile p c.loop-variable.variable c.in_ok-settled.settled.0) c.in-Some-change.is
    c.in_ok-settled.ensures) c.in_ok-push-2.ensures.items

pub returns : goal.returns
returns g c =
    let L = g.C.Classes.lattice c.args.lattice.now in
    let p = program c.args.program.now in
    let laws : IsLattice L = g.met.C.Classes.laws c.args.lattice.now in
    let res = resolved_program L c.args.program.now c.requires.globals c.body-body.ensures.resolved in
    let e : c.loop-variable.variable ≡ size_of p =
    omega (arith, c.loop-variable-test.false, c.declarations-count.ensures.count) in
    record {
      answer = settled_all L laws c.args.profile p res c.requires.declared (λ a b. flow_has c.in_ok-flow.flow.rows.items b a)
          c.in_ok-flow.ensures c.loop-variable.variable e c.loop-variable.policy.items c.loop-variable.raises.items
          c.loop-variable.invariant (rw c.in_default.is at c.in_ok-found.ensures);
    }
