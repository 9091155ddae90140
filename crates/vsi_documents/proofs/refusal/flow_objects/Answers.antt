use Rattle.std.proofs.Common.{◌≡◌, ◌∙◌, ◌+◌, ◌∷◌, ap, drop, map, sym}
use Rattle.std.proofs.lemmas.List.{drop_more}
use Rattle.serde_json.specs.View.{members_view, view}
use Rattle.vsi_documents.proofs.Kept.{objects_kept}
use Rattle.vsi_documents.proofs.refusal.flow_objects.Goals as goal

pub loop-step-preserved : goal.loop-step-preserved
loop-step-preserved c =
    let steps = c.in-Some.steps.now in
    let i = c.loop-step.step-index in
    let step = c.step-item.result in
    let next : drop i steps ≡ step ∷ drop (i + 1) steps =
    drop_more steps i step c.loop-step-test.true ∙ ap (λ x. x ∷ drop (i + 1) steps) (sym c.step-item.is) in
    objects_kept c.args.uri.now c.text-text.result.now c.resolved-program.result.now step (drop i steps)
    (drop (i + 1) steps) steps (map view c.loop-step.found) (map view c.push.new.self) (members_view c.in_ok-made.made) next
    c.in_ok-push.ensures
    c.in_ok-made.ensures c.loop-step.invariant
