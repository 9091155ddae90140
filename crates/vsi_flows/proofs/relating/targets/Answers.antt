use Rattle.std.proofs.Common.{◌∙◌, ℕ, Bool, [], ◌∷◌, ◌++◌, refl, sym, ap, arith}
use Rattle.std.proofs.lemmas.Bool.{false≢true}
use Rattle.vsi_lattice.specs.LatticeView.{order}
use Rattle.vsi_types.specs.Security.{program}
use Rattle.vsi_infer.specs.FlowRows.{flow_has}
use Rattle.vsi_compiler.proofs.Compiled.{lawful}
use Rattle.vsi_compiler.proofs.Held.{declared_at, ready}
use Rattle.vsi_flows.specs.Related.{IsTarget}
use Rattle.vsi_flows.proofs.RelatedLists.{first_start, first_skip, first_more, first_all}
use Rattle.vsi_flows.proofs.RelatedReach.{target_placed}
use Rattle.vsi_flows.proofs.relating.targets.Goals as goal

pub loop-place-init : goal.loop-place-init
loop-place-init c =
    let s = c.args.source.now in
    first_start (IsTarget (order s.lattice) c.args.profile (program s.resolved) c.args.variable) c.args.last
    c.requires.small _ c.new-found.ensures.items

pub loop-place-preserved-then-not-is_listed : goal.loop-place-preserved-then-not-is_listed
loop-place-preserved-then-not-is_listed c =
    let s = c.args.source.now in
    first_skip (IsTarget (order s.lattice) c.args.profile (program s.resolved) c.args.variable) c.args.last
    c.requires.small c.loop-place.place c.loop-place.found.items
    (λ h. false≢true (sym c.if-not-is_listed.true ∙ c.in_ok-is_listed.ensures.1 h)) c.loop-place.invariant

pub loop-place-preserved : goal.loop-place-preserved
loop-place-preserved c =
    let s = c.args.source.now in
    first_more (IsTarget (order s.lattice) c.args.profile (program s.resolved) c.args.variable) c.args.last
    c.requires.small c.loop-place.place c.loop-place.found.items _
    (let t = c.loop-place-test.true in omega (arith, t)) (c.in_ok-is_listed.ensures.0 c.if-not-is_listed.false)
    (c.in_ok-push.ensures.items ∙ ap (λ (x : ℕ). c.loop-place.found.items ++ x ∷ []) c.variable_at.ensures)
    c.loop-place.invariant

pub returns : goal.returns
returns c =
    let s = c.args.source.now in
    let p = program s.resolved in
    let is = c.resolved-program.ensures.kept in
    let flows : ℕ → ℕ → Bool = λ a b. flow_has c.args.flow.now.rows.items b a in
    first_all (IsTarget (order s.lattice) c.args.profile p c.args.variable) c.args.last c.requires.small
    c.loop-place.place c.loop-place.found.items (let t = c.loop-place-test.false in omega (arith, t))
    (target_placed (order s.lattice) (lawful s.lattice) c.args.profile p (ready s is)
    (declared_at s is s.lattice s.resolved refl refl) flows c.requires.flows c.args.last c.requires.last
    c.args.variable) c.loop-place.invariant
