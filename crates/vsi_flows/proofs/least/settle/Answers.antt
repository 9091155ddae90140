use Rattle.std.proofs.Common.{◌≡◌, ◌+◌, ◌<◌, ◌≤◌, ◌∙◌, ℕ, Bool, None, Some, length, refl, sym, ap, subst, arith}
use Rattle.vsi_lattice.specs.Order.{IsLattice}
use Rattle.vsi_types.specs.Security.{program}
use Rattle.vsi_types.proofs.Tables.{resolved_program}
use Rattle.vsi_infer.specs.Distances.{AreLeast}
use Rattle.vsi_infer.specs.Flowing.{size_of}
use Rattle.vsi_infer.specs.FlowRows.{flow_has}
use Rattle.vsi_flows.proofs.RowLemmas.{within_last}
use Rattle.vsi_flows.proofs.VerdictLemmas.{declared_within}
use Rattle.vsi_flows.specs.Reaching.{IsJoined, IsOver, AreUnder}
use Rattle.vsi_flows.proofs.RaiseRowLemmas.{settled_omitted, settled_same, settled_raised}
use Rattle.vsi_flows.proofs.least.settle.Goals as goal

pub fewest_flows-requires-clause-within : goal.fewest_flows-requires-clause-within
fewest_flows-requires-clause-within g c =
    within_last c.args.profile (program c.args.program.now) _ c.requires.flows (length c.args.floors.now)
    c.requires.floors.len

pub nearest_over-requires-clause-class : goal.nearest_over-requires-clause-class
nearest_over-requires-clause-class g c =
    let L = g.C.Classes.lattice c.args.lattice.now in
    let laws : IsLattice L = g.met.C.Classes.laws c.args.lattice.now in
    declared_within L laws (program c.args.program.now) c.requires.globals c.requires.declared c.args.variable
    c.in-Some.old (sym c.declared_class.ensures ∙ c.in-Some.is)

pub returns-in_default : goal.returns-in_default
returns-in_default g c =
    let L = g.C.Classes.lattice c.args.lattice.now in
    let laws : IsLattice L = g.met.C.Classes.laws c.args.lattice.now in
    let p = program c.args.program.now in
    let res = resolved_program L c.args.program.now c.requires.globals c.body-body.ensures.resolved in
    let row = c.in_ok-row.row.items in
    let fl : ℕ → ℕ → Bool = λ a b. flow_has c.args.flow.now.rows.items b a in
    let d : AreLeast fl (size_of p + 1) c.args.variable row =
    subst (λ (n : ℕ). AreLeast fl (n + 1) c.args.variable row) c.requires.floors.len c.in_ok-row.ensures in
    let j : IsJoined L c.args.floors.now row (length c.args.floors.now) c.joined-new.result =
    subst (λ r. IsJoined L c.args.floors.now r (length c.args.floors.now) c.joined-new.result) c.deref.ensures.value
    c.joined-new.ensures in
    settled_omitted L laws c.args.profile p res c.requires.declared fl c.requires.flows c.args.floors.now
    c.requires.floors c.args.variable c.requires.variable row d c.joined-new.result (length c.args.floors.now) refl j
    (sym c.declared_class.ensures ∙ c.in_default.is)

pub returns-in_default-nearest_over : goal.returns-in_default-nearest_over
returns-in_default-nearest_over g c =
    let L = g.C.Classes.lattice c.args.lattice.now in
    let laws : IsLattice L = g.met.C.Classes.laws c.args.lattice.now in
    let p = program c.args.program.now in
    let res = resolved_program L c.args.program.now c.requires.globals c.body-body.ensures.resolved in
    let row = c.in_ok-row.row.items in
    let fl : ℕ → ℕ → Bool = λ a b. flow_has c.args.flow.now.rows.items b a in
    let d : AreLeast fl (size_of p + 1) c.args.variable row =
    subst (λ (n : ℕ). AreLeast fl (n + 1) c.args.variable row) c.requires.floors.len c.in_ok-row.ensures in
    let j : IsJoined L c.args.floors.now row (length c.args.floors.now) c.joined-new.result =
    subst (λ r. IsJoined L c.args.floors.now r (length c.args.floors.now) c.joined-new.result) c.deref.ensures.value
    c.joined-new.ensures in
    settled_same L laws c.args.profile p res c.requires.declared fl c.requires.flows c.args.floors.now
    c.requires.floors c.args.variable c.requires.variable row d c.joined-new.result (length c.args.floors.now) refl j
    c.in-Some.old (sym c.declared_class.ensures ∙ c.in-Some.is)
    (subst (λ r. AreUnder L c.args.floors.now r c.in-Some.old) c.deref-2.ensures.value
    c.in_default-nearest_over.ensures.none)

pub returns : goal.returns
returns g c =
    let L = g.C.Classes.lattice c.args.lattice.now in
    let laws : IsLattice L = g.met.C.Classes.laws c.args.lattice.now in
    let p = program c.args.program.now in
    let res = resolved_program L c.args.program.now c.requires.globals c.body-body.ensures.resolved in
    let row = c.in_ok-row.row.items in
    let fl : ℕ → ℕ → Bool = λ a b. flow_has c.args.flow.now.rows.items b a in
    let d : AreLeast fl (size_of p + 1) c.args.variable row =
    subst (λ (n : ℕ). AreLeast fl (n + 1) c.args.variable row) c.requires.floors.len c.in_ok-row.ensures in
    let j : IsJoined L c.args.floors.now row (length c.args.floors.now) c.joined-new.result =
    subst (λ r. IsJoined L c.args.floors.now r (length c.args.floors.now) c.joined-new.result) c.deref.ensures.value
    c.joined-new.ensures in
    settled_raised L laws c.args.profile p res c.requires.declared fl c.requires.flows c.args.floors.now
    c.requires.floors c.args.variable c.requires.variable row d c.joined-new.result (length c.args.floors.now) refl j
    c.in-Some.old (sym c.declared_class.ensures ∙ c.in-Some.is) c.in-Some-nearest_over.cause
    (subst (λ r. IsOver L c.args.floors.now r c.in-Some.old c.in-Some-nearest_over.cause) c.deref-2.ensures.value
    c.in-Some-nearest_over.ensures.some) _ refl refl refl refl
