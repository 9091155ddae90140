use Rattle.std.proofs.Common.{◌≡◌, ◌++◌, ◌∙◌, [], cond, refl, subst, sym, true}
use Rattle.std.specs.Prelude.{OnOk}
use Rattle.vsi_report.specs.ByRule.{flows_in_rows}
use Rattle.vsi_report.specs.Drawn.{shown}
use Rattle.vsi_report.specs.FlowsGraph.{flow_line}
use Rattle.vsi_report.proofs.flows_graph.put_edge_by.Goals as goal

pub returns : goal.returns
returns c =
    let a = c.args.source in
    let b = c.args.target in
    let has : flows_in_rows c.args.flows.now c.args.rule a b ≡ true =
    sym c.has_flow.ensures ∙ c.if-not-has_flow.false in
    subst (λ h. OnOk c.fill.result (c.fill.new.page.items ≡
    c.args.text.now.items ++ cond h (flow_line (shown c.args.drawn.now) a b c.args.rule) []))
    (sym has)
    (rw (
      c.rule_text.ensures,
      c.style.ensures,
      c.edge_words.ensures,
      c.step_number-number.ensures,
      c.is_upward.ensures,
    ) at (c.fill.ensures refl))
