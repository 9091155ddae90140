use Rattle.std.proofs.Common.{refl, sym, ap, subst}
use Rattle.std.proofs.lemmas.Result.{err_from_is_err_and}
use Rattle.vsi_lattice.specs.LatticeView.{class_named, order}
use Rattle.vsi_lattice.specs.declared.lattice.Lattice.{Lattice}
use Rattle.vsi_types.specs.declared.rules.Profile.TheVariants.{Strict}
use Rattle.vsi_compiler.specs.Acceptance.{IsAccepted}
use Rattle.vsi_compiler.specs.Headline.{IsCompiled}
use Rattle.vsi_compiler.proofs.Compiled.{lawful}
use Rattle.vsi_compiler.proofs.Held.{of_parts}
use Rattle.vsi_steady.proofs.Sources.{looped_globals, looped_declared, steady_flows, steady_accepted, flow_memory, flow_refused, image_steady, image_refused, strictly_compiled}
use Rattle.vsi_steady.specs.Refusal.{Refuses}
use Rattle.vsi_steady.specs.Source.{HasSteadyFlows, judging}
use Rattle.vsi_steady.specs.Steady.{IsSteady}
use Rattle.vsi_steady.proofs.source.steady_image_of.Goals as goal

pub infer_in-requires-clause-globals : goal.infer_in-requires-clause-globals
infer_in-requires-clause-globals c =
    let l = c.lattice-lattice.result.now in
    let text = c.args.source.now.text in
    let r = c.resolved-resolved.result.now in
    let is = of_parts c.args.source.now c.resolved-resolved.ensures.kept l text r c.lattice-lattice.ensures refl
    c.resolved-resolved.ensures.value in
    looped_globals (order l) r c.in_ok-looped.looped c.in_ok-looped.ensures is.classes

pub infer_in-requires-clause-declared : goal.infer_in-requires-clause-declared
infer_in-requires-clause-declared c =
    let l = c.lattice-lattice.result.now in
    let text = c.args.source.now.text in
    let r = c.resolved-resolved.result.now in
    let is = of_parts c.args.source.now c.resolved-resolved.ensures.kept l text r c.lattice-lattice.ensures refl
    c.resolved-resolved.ensures.value in
    looped_declared (order l) r c.in_ok-looped.looped c.in_ok-looped.ensures is.classes

pub returns-in_err-_classes-clause-refused : goal.returns-in_err-_classes-clause-refused
returns-in_err-_classes-clause-refused c =
    let l = c.lattice-lattice.result.now in
    let text = c.args.source.now.text in
    let r = c.resolved-resolved.result.now in
    let is = of_parts c.args.source.now c.resolved-resolved.ensures.kept l text r c.lattice-lattice.ensures refl
    c.resolved-resolved.ensures.value in
    let p = err_from_is_err_and c.from_residual-in_err-_classes.result c.from_residual-in_err-_classes.ensures.1 in
    rw (p.1, p.2, ← c.lattice-lattice.ensures)
    (flow_refused (class_named l) text r is.stands c.in_ok-looped.looped c.in_ok-looped.ensures (order l)
    c.in_err-_classes.field-0.0 c.in_err-_classes.ensures.refused)

pub returns-in_err-_classes-clause-exact : goal.returns-in_err-_classes-clause-exact
returns-in_err-_classes-clause-exact c = λ accepted.
    let l = c.lattice-lattice.result.now in
    let text = c.args.source.now.text in
    let r = c.resolved-resolved.result.now in
    let is = of_parts c.args.source.now c.resolved-resolved.ensures.kept l text r c.lattice-lattice.ensures refl
    c.resolved-resolved.ensures.value in
    let p = err_from_is_err_and c.from_residual-in_err-_classes.result c.from_residual-in_err-_classes.ensures.1 in
    rw (p.1, p.2)
    (flow_memory (class_named l) text r is.stands c.in_ok-looped.looped c.in_ok-looped.ensures (order l) (lawful l)
    is.kept is.classes c.in_err-_classes.field-0.0 c.in_err-_classes.ensures.refused
    (subst (λ (x : Lattice). HasSteadyFlows (class_named x) (order x) text) (sym c.lattice-lattice.ensures)
    accepted.flows))

pub returns-in_err-steady_in-clause-refused : goal.returns-in_err-steady_in-clause-refused
returns-in_err-steady_in-clause-refused c =
    let l = c.lattice-lattice.result.now in
    let text = c.args.source.now.text in
    let r = c.resolved-resolved.result.now in
    let is = of_parts c.args.source.now c.resolved-resolved.ensures.kept l text r c.lattice-lattice.ensures refl
    c.resolved-resolved.ensures.value in
    let s = c.args.source.now in
    let accepted : IsAccepted (class_named s.lattice) (order s.lattice) Strict s.text =
    rw (← c.lattice-lattice.ensures)
    (steady_accepted (class_named l) text r is.stands c.in_ok-looped.looped c.in_ok-looped.ensures (order l) c.in_ok-_classes._classes.items (lawful l) is.kept
    is.classes c.in_ok-_classes.ensures.ok.0) in
    let v = c.in_ok-verified.ensures in
    let compiled : IsCompiled (class_named s.lattice) (order s.lattice) Strict s.text c.in_ok-verified.verified =
    strictly_compiled (class_named s.lattice) (order s.lattice) s.text c.in_ok-verified.verified accepted v.globals
    v.meaning (v.noninterference Strict accepted) (λ _. v.endings accepted) v.coded v.image v.size in
    let flows : HasSteadyFlows (class_named s.lattice) (order s.lattice) s.text =
    rw (← c.lattice-lattice.ensures)
    (steady_flows (class_named l) text r is.stands c.in_ok-looped.looped c.in_ok-looped.ensures (order l)
    c.in_ok-_classes._classes.items c.in_ok-_classes.ensures.ok.0) in
    let told = subst (λ (x : Lattice). Refuses (class_named x) (order x) c.in_ok-verified.verified
    c.in_err-steady_in.field-0.0) c.lattice-lattice.ensures c.in_err-steady_in.ensures.refused in
    let p = err_from_is_err_and c.from_residual-in_err-steady_in.result c.from_residual-in_err-steady_in.ensures.1 in
    rw (p.1, p.2)
    (image_refused (class_named s.lattice) (order s.lattice) s.text c.in_ok-verified.verified flows compiled
    c.in_err-steady_in.field-0.0 told)

pub returns-in_err-steady_in-clause-exact : goal.returns-in_err-steady_in-clause-exact
returns-in_err-steady_in-clause-exact c = λ accepted.
    let s = c.args.source.now in
    let steady = image_steady (class_named s.lattice) (order s.lattice) s.text c.in_ok-verified.verified
    c.in_ok-verified.ensures.image accepted in
    let p = err_from_is_err_and c.from_residual-in_err-steady_in.result c.from_residual-in_err-steady_in.ensures.1 in
    rw (p.1, p.2)
    (ap judging (c.in_err-steady_in.ensures.exact
    (subst (λ (x : Lattice). IsSteady (class_named x) (order x) c.in_ok-verified.verified)
    (sym c.lattice-lattice.ensures) steady)))

pub returns-clause-flows : goal.returns-clause-flows
returns-clause-flows c =
    let l = c.lattice-lattice.result.now in
    let text = c.args.source.now.text in
    let r = c.resolved-resolved.result.now in
    let is = of_parts c.args.source.now c.resolved-resolved.ensures.kept l text r c.lattice-lattice.ensures refl
    c.resolved-resolved.ensures.value in
    rw (← c.lattice-lattice.ensures)
    (steady_flows (class_named l) text r is.stands c.in_ok-looped.looped c.in_ok-looped.ensures (order l)
    c.in_ok-_classes._classes.items c.in_ok-_classes.ensures.ok.0)

pub returns-clause-compiled : goal.returns-clause-compiled
returns-clause-compiled c =
    let l = c.lattice-lattice.result.now in
    let text = c.args.source.now.text in
    let r = c.resolved-resolved.result.now in
    let is = of_parts c.args.source.now c.resolved-resolved.ensures.kept l text r c.lattice-lattice.ensures refl
    c.resolved-resolved.ensures.value in
    let s = c.args.source.now in
    let accepted : IsAccepted (class_named s.lattice) (order s.lattice) Strict s.text =
    rw (← c.lattice-lattice.ensures)
    (steady_accepted (class_named l) text r is.stands c.in_ok-looped.looped c.in_ok-looped.ensures (order l) c.in_ok-_classes._classes.items (lawful l) is.kept
    is.classes c.in_ok-_classes.ensures.ok.0) in
    let v = c.in_ok-verified.ensures in
    let compiled : IsCompiled (class_named s.lattice) (order s.lattice) Strict s.text c.in_ok-verified.verified =
    strictly_compiled (class_named s.lattice) (order s.lattice) s.text c.in_ok-verified.verified accepted v.globals
    v.meaning (v.noninterference Strict accepted) (λ _. v.endings accepted) v.coded v.image v.size in
    compiled

pub returns-clause-steady : goal.returns-clause-steady
returns-clause-steady c = rw (← c.lattice-lattice.ensures) c.in_ok-steady_in.ensures.steady

pub returns-clause-alike : goal.returns-clause-alike
returns-clause-alike c = rw (← c.lattice-lattice.ensures) c.in_ok-steady_in.ensures.alike

pub returns-clause-views : goal.returns-clause-views
returns-clause-views c = rw (← c.lattice-lattice.ensures) c.in_ok-steady_in.ensures.views
