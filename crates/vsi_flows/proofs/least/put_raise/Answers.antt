use Rattle.std.proofs.Common.{◌≡◌, ◌∙◌, ◌++◌, ℕ, codes, map, ap}
use Rattle.std.proofs.lemmas.Result.{on_ok_weaker}
use Rattle.vsi_syntax.specs.CommandView.{declared}
use Rattle.vsi_infer.specs.Explanation.{name_of}
use Rattle.vsi_flows.specs.Lines.{change_text, name_start}
use Rattle.vsi_flows.proofs.NameLemmas.{line_made, on_added}
use Rattle.vsi_flows.proofs.least.put_raise.Goals as goal

pub returns : goal.returns
returns c =
    let l = c.args.lattice.now in
    let source = c.args.source.now in
    let r = c.args.program.now in
    let raise = c.args.raise.now in
    let text = c.args.text.now.items in
    let globals = map declared c.args.declarations.now in
    let start : c.name_start-start.result ≡ name_start globals r.letvars raise.variable =
    c.name_start-start.ensures ∙ ap (λ ls. name_start globals ls raise.variable) c.letvars.ensures in
    on_ok_weaker c.extend_from_slice-3.result
    (λ last. line_made text (change_text l source (name_start globals r.letvars raise.variable) r raise)
    (codes ", since ") (name_of r raise.cause) (codes " reaches it\n") c.put_change.new.text.items
    c.extend_from_slice.new.self.items c.extend_from_slice-2.new.self.items c.extend_from_slice-3.new.self.items
    (c.in_ok-put_change.ensures ∙ ap (λ (s : ℕ). text ++ change_text l source s r raise) start)
    c.in_ok-extend_from_slice.ensures.items
    (c.in_ok-extend_from_slice-2.ensures.items ∙ ap (λ n. c.extend_from_slice.new.self.items ++ n) c.variable_name.ensures) last)
    (on_added c.extend_from_slice-3.result _ _ _ c.extend_from_slice-3.ensures.items)
