use Rattle.std.proofs.Common.{◌≡◌, ◌+◌, ◌<◌, ◌≤◌, ◌∙◌, ℕ, Bool, length, get_or, sym, subst, arith}
use Rattle.std.proofs.lemmas.List.{get_or_default}
use Rattle.vsi_lattice.specs.Order.{IsLattice}
use Rattle.vsi_types.specs.Security.{program, steps_of}
use Rattle.vsi_types.proofs.Tables.{resolved_program}
use Rattle.vsi_infer.specs.Distances.{AreLeast}
use Rattle.vsi_infer.specs.Flowing.{size_of}
use Rattle.vsi_infer.specs.FlowRows.{flow_has}
use Rattle.vsi_infer.specs.Shortest.{FindsWalks}
use Rattle.vsi_flows.specs.Reaching.{IsOver, AreUnder}
use Rattle.vsi_flows.proofs.RaiseRowLemmas.{quiet, over_down, over_final}
use Rattle.vsi_flows.proofs.least.final_walk.Goals as goal

pub returns-in_default : goal.returns-in_default
returns-in_default g c =
    let L = g.C.Classes.lattice c.args.lattice.now in
    let laws : IsLattice L = g.met.C.Classes.laws c.args.lattice.now in
    let p = program c.args.program.now in
    let res = resolved_program L c.args.program.now c.requires.globals c.body-body.ensures.resolved in
    let row = c.in_ok-row.row.items in
    let fl : ℕ → ℕ → Bool = λ a b. flow_has c.args.flow.now.rows.items b a in
    let d : AreLeast fl (size_of p + 1) (size_of p) row =
    subst (λ (n : ℕ). AreLeast fl (n + 1) n row) c.declarations-last.ensures.count c.in_ok-row.ensures in
    quiet L laws c.args.profile p res c.requires.declared fl c.requires.flows row d c.args.floors.now c.requires.floors
    (subst (λ (b : ℕ). AreUnder L c.args.floors.now row b) c.bottom.ensures
    (subst (λ r. AreUnder L c.args.floors.now r c.bottom.result) c.deref.ensures.value c.in_default.ensures.none))

pub walk_from-requires-clause-known : goal.walk_from-requires-clause-known
walk_from-requires-clause-known g c =
    (c.walks_to-walks.ensures (steps_of c.args.profile (program c.args.program.now)) c.in_ok-known.ensures).known

pub walk_from-requires-clause-down : goal.walk_from-requires-clause-down
walk_from-requires-clause-down g c =
    let L = g.C.Classes.lattice c.args.lattice.now in
    let laws : IsLattice L = g.met.C.Classes.laws c.args.lattice.now in
    let p = program c.args.program.now in
    let res = resolved_program L c.args.program.now c.requires.globals c.body-body.ensures.resolved in
    let row = c.in_ok-row.row.items in
    let fl : ℕ → ℕ → Bool = λ a b. flow_has c.args.flow.now.rows.items b a in
    let d : AreLeast fl (size_of p + 1) (size_of p) row =
    subst (λ (n : ℕ). AreLeast fl (n + 1) n row) c.declarations-last.ensures.count c.in_ok-row.ensures in
    let over : IsOver L c.args.floors.now row L.bottom c.in-Some.from =
    subst (λ (b : ℕ). IsOver L c.args.floors.now row b c.in-Some.from) c.bottom.ensures
    (subst (λ r. IsOver L c.args.floors.now r c.bottom.result c.in-Some.from) c.deref.ensures.value
    c.in-Some.ensures.some) in
    let f : FindsWalks (steps_of c.args.profile p) (size_of p) row c.walks_to-walks.result =
    subst (λ r. FindsWalks (steps_of c.args.profile p) (size_of p) r c.walks_to-walks.result) c.deref-3.ensures.value
    (subst (λ (n : ℕ). FindsWalks (steps_of c.args.profile p) n c.deref-3.result.now c.walks_to-walks.result)
    c.declarations-last.ensures.count
    (c.walks_to-walks.ensures (steps_of c.args.profile p) c.in_ok-known.ensures)) in
    over_down L laws c.args.profile p res c.requires.declared fl c.requires.flows row d c.args.floors.now c.requires.floors
    c.in-Some.from over c.walks_to-walks.result f

pub returns : goal.returns
returns g c =
    let L = g.C.Classes.lattice c.args.lattice.now in
    let laws : IsLattice L = g.met.C.Classes.laws c.args.lattice.now in
    let p = program c.args.program.now in
    let res = resolved_program L c.args.program.now c.requires.globals c.body-body.ensures.resolved in
    let row = c.in_ok-row.row.items in
    let fl : ℕ → ℕ → Bool = λ a b. flow_has c.args.flow.now.rows.items b a in
    let d : AreLeast fl (size_of p + 1) (size_of p) row =
    subst (λ (n : ℕ). AreLeast fl (n + 1) n row) c.declarations-last.ensures.count c.in_ok-row.ensures in
    let over : IsOver L c.args.floors.now row L.bottom c.in-Some.from =
    subst (λ (b : ℕ). IsOver L c.args.floors.now row b c.in-Some.from) c.bottom.ensures
    (subst (λ r. IsOver L c.args.floors.now r c.bottom.result c.in-Some.from) c.deref.ensures.value
    c.in-Some.ensures.some) in
    let f : FindsWalks (steps_of c.args.profile p) (size_of p) row c.walks_to-walks.result =
    subst (λ r. FindsWalks (steps_of c.args.profile p) (size_of p) r c.walks_to-walks.result) c.deref-3.ensures.value
    (subst (λ (n : ℕ). FindsWalks (steps_of c.args.profile p) n c.deref-3.result.now c.walks_to-walks.result)
    c.declarations-last.ensures.count
    (c.walks_to-walks.ensures (steps_of c.args.profile p) c.in_ok-known.ensures)) in
    let lt : c.in-Some.from < length row = omega (arith, over.within, c.requires.floors.len, d.len) in
    over_final L laws c.args.profile p res c.requires.declared fl c.requires.flows row d c.args.floors.now c.requires.floors
    c.in-Some.from over c.walks_to-walks.result f c.index.result.now
    (sym (c.index.ensures ∙ get_or_default row c.in-Some.from c.index.result.now 0 lt)) c.in_ok-steps.steps.items
    c.in_ok-steps.ensures
