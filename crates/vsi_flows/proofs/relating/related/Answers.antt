use Rattle.std.proofs.Common.{◌≤◌, ◌∙◌, ℕ, Bool, refl, ap, subst, arith}
use Rattle.vsi_lattice.specs.LatticeView.{order}
use Rattle.vsi_scope.specs.Program.{Resolved}
use Rattle.vsi_types.specs.Security.{program}
use Rattle.vsi_infer.specs.Flowing.{size_of, AreFlowsOf}
use Rattle.vsi_infer.specs.FlowRows.{flow_has}
use Rattle.vsi_compiler.proofs.Compiled.{lawful}
use Rattle.vsi_compiler.proofs.Held.{declared_at, ready}
use Rattle.vsi_flows.specs.Related.{IsSource, IsTarget}
use Rattle.vsi_flows.proofs.RelatedLists.{none_exactly}
use Rattle.vsi_flows.proofs.RelatedReach.{no_source, no_target}
use Rattle.vsi_flows.proofs.relating.related.Goals as goal

pub returns-then-not-is_known-clause-from : goal.returns-then-not-is_known-clause-from
returns-then-not-is_known-clause-from c =
    let s = c.args.source.now in
    let p = program s.resolved in
    let P = c.args.profile in
    let is = c.resolved-program.ensures.kept in
    let flows : ℕ → ℕ → Bool = λ a b. flow_has c.in_ok-flow.flow.rows.items b a in
    let are : AreFlowsOf P p flows =
    subst (λ (r : Resolved). AreFlowsOf P (program r) flows) c.resolved-program.ensures.value c.in_ok-flow.ensures in
    let past : size_of p ≤ c.args.variable =
    (let e = c.is_known.ensures.past c.if-not-is_known.true in omega (arith, e, c.declarations-last.ensures.count ∙ ap (λ (r : Resolved). size_of (program r)) c.resolved-program.ensures.value)) in
    none_exactly (IsSource (order s.lattice) P p c.args.variable) _ c.new-from.ensures.items
    (no_source (order s.lattice) (lawful s.lattice) P p (ready s is) (declared_at s is s.lattice s.resolved refl refl)
    flows are c.args.variable past (c.is_known.ensures.variable c.if-not-is_known.true))

pub returns-then-not-is_known-clause-to : goal.returns-then-not-is_known-clause-to
returns-then-not-is_known-clause-to c =
    let s = c.args.source.now in
    let p = program s.resolved in
    let P = c.args.profile in
    let is = c.resolved-program.ensures.kept in
    let flows : ℕ → ℕ → Bool = λ a b. flow_has c.in_ok-flow.flow.rows.items b a in
    let are : AreFlowsOf P p flows =
    subst (λ (r : Resolved). AreFlowsOf P (program r) flows) c.resolved-program.ensures.value c.in_ok-flow.ensures in
    let past : size_of p ≤ c.args.variable =
    (let e = c.is_known.ensures.past c.if-not-is_known.true in omega (arith, e, c.declarations-last.ensures.count ∙ ap (λ (r : Resolved). size_of (program r)) c.resolved-program.ensures.value)) in
    none_exactly (IsTarget (order s.lattice) P p c.args.variable) _ c.new-to.ensures.items
    (no_target (order s.lattice) (lawful s.lattice) P p (ready s is) (declared_at s is s.lattice s.resolved refl refl)
    flows are c.args.variable past)
