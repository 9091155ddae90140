use Rattle.std.proofs.Common.{refl, sym, subst}
use Rattle.std.proofs.lemmas.Result.{err_from_is_err_and}
use Rattle.vsi_lattice.specs.LatticeView.{class_named, order}
use Rattle.vsi_lattice.specs.declared.lattice.Lattice.{Lattice}
use Rattle.vsi_types.specs.Security.{program}
use Rattle.vsi_compiler.specs.Acceptance.{IsAccepted}
use Rattle.vsi_compiler.specs.SourceView.{source_of}
use Rattle.vsi_compiler.proofs.Compiled.{lawful, accepted, flow_refused, flow_memory}
use Rattle.vsi_compiler.proofs.Held.{of_parts, ready, globals_at, declared_at, flow_alone}
use Rattle.vsi_compiler.proofs.source.judge.Goals as goal

pub infer_in-requires-clause-globals : goal.infer_in-requires-clause-globals
infer_in-requires-clause-globals c =
    globals_at _ c.resolved-resolved.ensures.kept _ _ c.lattice.ensures
    c.resolved-resolved.ensures.value

pub infer_in-requires-clause-declared : goal.infer_in-requires-clause-declared
infer_in-requires-clause-declared c =
    declared_at _ c.resolved-resolved.ensures.kept _ _ c.lattice.ensures
    c.resolved-resolved.ensures.value

pub returns-in_err-infer_in-clause-refused : goal.returns-in_err-infer_in-clause-refused
returns-in_err-infer_in-clause-refused c =
    let l = c.lattice.result.now in
    let text = c.args.source.now.text in
    let r = c.resolved-resolved.result.now in
    let is = of_parts c.args.source.now c.resolved-resolved.ensures.kept l text r c.lattice.ensures refl
    c.resolved-resolved.ensures.value in
    let p = err_from_is_err_and c.from_residual.result c.from_residual.ensures.1 in
    rw (p.1, p.2, ← c.lattice.ensures)
    (flow_refused (class_named l) text r is.stands (order l) c.args.profile c.in_err-infer_in.field-0.0
    c.in_err-infer_in.ensures.refused)

pub returns-in_err-infer_in-clause-flow : goal.returns-in_err-infer_in-clause-flow
returns-in_err-infer_in-clause-flow c =
    let l = c.lattice.result.now in
    let r = c.resolved-resolved.result.now in
    let p = err_from_is_err_and c.from_residual.result c.from_residual.ensures.1 in
    rw (p.1, p.2, ← c.lattice.ensures, ← c.resolved-resolved.ensures.value)
    (flow_alone (order l) c.args.profile (program r) c.in_err-infer_in.field-0.0 c.in_err-infer_in.ensures.refused)

pub returns-in_err-infer_in-clause-exact : goal.returns-in_err-infer_in-clause-exact
returns-in_err-infer_in-clause-exact c = λ a.
    let l = c.lattice.result.now in
    let text = c.args.source.now.text in
    let r = c.resolved-resolved.result.now in
    let is = of_parts c.args.source.now c.resolved-resolved.ensures.kept l text r c.lattice.ensures refl
    c.resolved-resolved.ensures.value in
    let p = err_from_is_err_and c.from_residual.result c.from_residual.ensures.1 in
    rw (p.1, p.2)
    (flow_memory (class_named l) text r is.stands (order l) c.args.profile (lawful l) (ready (source_of l text r) is)
    c.in_err-infer_in.field-0.0 c.in_err-infer_in.ensures.refused
    (subst (λ (x : Lattice). IsAccepted (class_named x) (order x) c.args.profile text) (sym c.lattice.ensures) a))

pub returns-clause-accepted : goal.returns-clause-accepted
returns-clause-accepted c =
    let l = c.lattice.result.now in
    let text = c.args.source.now.text in
    let r = c.resolved-resolved.result.now in
    let is = of_parts c.args.source.now c.resolved-resolved.ensures.kept l text r c.lattice.ensures refl
    c.resolved-resolved.ensures.value in
    rw (← c.lattice.ensures)
    (accepted (class_named l) text r is.stands (order l) c.args.profile _ c.in_ok-infer_in.ensures.ok.0)

pub returns-clause-least : goal.returns-clause-least
returns-clause-least c = rw (← c.lattice.ensures, ← c.resolved-resolved.ensures.value) c.in_ok-infer_in.ensures.ok
