use Rattle.std.proofs.Common.{◌≡◌, ◌++◌, ◌∙◌, ap, arith, length, refl, rules, sym}
use Rattle.std.proofs.lemmas.List.{length-map}
use Rattle.std.specs.Prelude.{codes}
use Rattle.std.specs.List.{flat_map}
use Rattle.vsi_types.specs.Security.{count_from}
use Rattle.vsi_report.specs.Drawn.{shown}
use Rattle.vsi_report.specs.FlowsGraph.{above_line, kept_line, kept_lines, points_line}
use Rattle.vsi_report.proofs.FlowsGraphLemmas.{added_five, more_lines}
use Rattle.vsi_report.proofs.dot.put_frame.Goals as goal

pub loop-class-preserved : goal.loop-class-preserved
loop-class-preserved c =
    more_lines points_line c.extend_from_slice.new.self.items c.loop-class.text.items c.fill.new.page.items
    c.loop-class.class c.loop-class.invariant (c.in_ok-fill.ensures refl)

pub loop-number-preserved : goal.loop-number-preserved
loop-number-preserved c =
    more_lines (kept_line (shown c.args.drawn.now)) c.put_above.new.text.items c.loop-number.text.items
    c.put_between.new.text.items c.loop-number.number c.loop-number.invariant
    (rw (c.class_shown.ensures, c.variable_at.ensures) at (c.in_ok-put_between.ensures))

pub returns : goal.returns
returns c =
    let s = shown c.args.drawn.now in
    let o = c.args.drawn.now.order.now in
    let count : c.len-class-end.result ≡ o.names.len = c.len-class-end.ensures in
    let kept = o.names.ok in
    let all : c.loop-class.class ≡ length o.names.items = omega (arith, c.loop-class-test.false) in
    added_five c.args.text.now.items c.extend_from_slice.new.self.items c.loop-class.text.items
    c.put_above.new.text.items c.loop-number.text.items c.extend_from_slice-2.new.self.items
    (codes "  {\n  node [shape=point, style=invis];\n  edge [style=invis];\n")
    (flat_map points_line (count_from 0 (length s.names)))
    (flat_map above_line c.args.drawn.now.order.now.covers.items) (kept_lines s c.args.count) (codes "  }\n")
    (search rules)
    (c.loop-class.invariant
    ∙ ap (λ n. c.extend_from_slice.new.self.items ++ flat_map points_line (count_from 0 n))
    (all ∙ sym (length-map o.names.items _)))
    c.in_ok-put_above.ensures
    (c.loop-number.invariant
    ∙ ap (λ n. c.put_above.new.text.items ++ flat_map (kept_line s) (count_from 0 n))
    (omega (arith, c.loop-number-test.false)))
    (search rules)
