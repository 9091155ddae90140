use Rattle.std.proofs.Common.{◌++◌, ◌∙◌, ap, codes, get_or, length}
use Rattle.std.specs.List.{flat_map}
use Rattle.vsi_types.specs.declared.rules.Step.{Step}
use Rattle.vsi_infer.specs.Explanation.{step_line, last_text, variable_text, explanation}
use Rattle.vsi_infer.proofs.ExplainLemmas.{explained, four_added, positive}
use Rattle.vsi_infer.proofs.explanation.explain.Goals as goal

pub returns : goal.returns
returns c =
    let l = c.args.lattice.now in
    let r = c.args.program.now in
    let steps = c.as_slice-steps.result.now in
    let d = c.index-steps-0.result in
    let e = c.index-steps-steps.result in
    let lines = flat_map (step_line c.args.source.now r) steps in
    let last = last_text l r d.source e.target in
    four_added c.put_steps.new.text.items (variable_text l r d.source) (codes " may not flow to ")
    (variable_text l r e.target) (codes "\n") c.put_variable.new.text.items c.extend_from_slice.new.self.items
    c.put_variable-2.new.text.items c.extend_from_slice-2.new.self.items c.in_ok-put_variable.ensures
    c.in_ok-extend_from_slice.ensures.items c.in_ok-put_variable-2.ensures c.in_ok-extend_from_slice-2.ensures.items
    ∙ ap (λ t. t ++ last) (c.in_ok-put_steps.ensures ∙ ap (λ t. t ++ lines) c.new-text.ensures.items)
    ∙ ap (λ (s : Step). lines ++ last_text l r s.source e.target) c.index-steps-0.is
    ∙ ap (λ (s : Step). lines ++ last_text l r (get_or steps 0 d).source s.target) c.index-steps-steps.is
    ∙ explained l c.args.source.now r steps d e (positive (length steps) c.if-is_empty.ensures)
    ∙ ap (explanation l c.args.source.now r) c.as_slice-steps.ensures.value
