use Rattle.std.proofs.Common.{ℕ, List, ◌++◌, ◌∙◌, ap, append_assoc, get_or, length}
use Rattle.std.specs.List.{flat_map}
use Rattle.vsi_image.specs.Fields.{globals}
use Rattle.vsi_types.specs.declared.rules.Step.{Step}
use Rattle.vsi_infer.proofs.ExplainLemmas.{positive}
use Rattle.vsi_audit.specs.Telling.{step_line, last_text}
use Rattle.vsi_audit.proofs.Returned.{on_ok}
use Rattle.vsi_audit.proofs.Telling.{told}
use Rattle.vsi_audit.proofs.flow.put_walk.Goals as goal

pub returns : goal.returns
returns c =
    let l = c.args.lattice.now in
    let gs = globals c.args.names.now.globals.now in
    let f = c.args.names.now.form in
    let steps = c.args.steps.now in
    let before = c.args.out.now.items in
    let d = c.index-steps-0.result in
    let e = c.index-steps-steps.result in
    let lines = flat_map (step_line gs f) steps in
    let last = last_text l gs f d.source e.target in
    on_ok c.put_last.result _ _ (λ put. put
    ∙ ap (λ (t : List ℕ). t ++ last) c.in_ok-put_steps.ensures
    ∙ append_assoc before lines last
    ∙ ap (λ (s : Step). before ++ (lines ++ last_text l gs f s.source e.target)) c.index-steps-0.is
    ∙ ap (λ (s : Step). before ++ (lines ++ last_text l gs f (get_or steps 0 d).source s.target)) c.index-steps-steps.is
    ∙ ap (λ (t : List ℕ). before ++ t) (told l gs f steps d e (positive (length steps) c.if-is_empty.ensures)))
    c.put_last.ensures
