use Rattle.std.proofs.Common.{rules, arith, refl, ap, subst, ◌∙◌, set, w64, to_z, of_z}
use Rattle.std.proofs.lemmas.Int.{to_z-of_z}
use Rattle.std.proofs.lemmas.List.{get_or_read}
use Rattle.vsi_scope.specs.Meaning.{value}
use Rattle.vsi_scope.specs.View.{expression}
use Rattle.vsi_steps.specs.Labels.{HasLabel, labelling}
use Rattle.vsi_steps.specs.Watched.{Held, held}
use Rattle.vsi_steps.proofs.Watching.{taken, stopped_at, assigned_at}
use Rattle.vsi_steps.proofs.labels.run_assign.Goals as goal

pub returns-in_default : goal.returns-in_default
returns-in_default g c =
    λ classes n.
    stopped_at c.args.rule (labelling c.args.rule (g.C.Classes.lattice c.args.lattice.now)) classes
    (held c.args.state.now) (held c.args.state.now)
    c.args.counter n c.args.location c.index-present.result.now c.label-read.result c.index.result.now c.args.place
    (expression c.args.e.now)
    (get_or_read c.args.state.now.labels.items c.args.location c.index-present.result.now
    (omega (arith, c.requires.places.0, c.requires.held.labelled.labels)) c.index-present.ensures 0)
    c.in_default.ensures

pub returns : goal.returns
returns g c =
    λ classes n.
    let L = labelling c.args.rule (g.C.Classes.lattice c.args.lattice.now) in
    let e = expression c.args.e.now in
    let a = held c.args.state.now in
    let b : Held = record {
      words = set a.words c.args.location (to_z w64 (of_z w64 c.value.result));
      labels = set a.labels c.args.location c.in-Some.risen;
      variables = a.variables;
      left = c.in_ok-state.field-0;
    } in
    assigned_at c.args.rule L classes a b c.args.counter n c.args.location c.index-present.result.now
    c.label-read.result
    c.index.result.now c.in-Some.risen c.args.place e c.value.result tt
    (get_or_read c.args.state.now.labels.items c.args.location c.index-present.result.now
    (omega (arith, c.requires.places.0, c.requires.held.labelled.labels)) c.index-present.ensures 0)
    (get_or_read c.args.state.now.variables.items c.args.location c.index.result.now c.requires.places.0
    c.index.ensures 0)
    (subst (λ y. HasLabel L y e c.label-read.result) c.deref.ensures.value c.label-read.ensures.label)
    c.in-Some.ensures (c.value.ensures ∙ ap (value e) c.deref-2.ensures.value)
    (ap (set a.words c.args.location) (to_z-of_z w64 c.value.result (search rules))) refl refl
    (taken _ _ _ _ c.checked_sub.ensures c.in_ok-state.ensures.value)
