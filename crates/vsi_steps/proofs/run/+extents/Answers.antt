use Rattle.std.proofs.Common.{◌+◌, drop, set, subst, sym, arith}
use Rattle.vsi_scope.specs.View.{command, expression, sequence}
use Rattle.vsi_steps.specs.Extents.{extent, IsFilled, AreParts}
use Rattle.vsi_steps.proofs.Counting.{at_command, at_end, seen_if}
use Rattle.vsi_steps.proofs.Tables.{filled_none, filled_both, put_filled, own_step, parts_if, parts_body}
use Rattle.vsi_steps.proofs.run.+extents.Goals as goal

pub put_all-loop-c-preserved : goal.put_all-loop-c-preserved
put_all-loop-c-preserved t c =
    let e = at_command c.args.body.now c.loop-c.c-index c.c-item.result c.loop-c-test.true c.c-item.is in
    let before = c.loop-c.extents in
    let parts = c.put_parts.new.extents in
    let site = c.len-site.result in
    let second = c.in_ok-second.second in
    let after = c.len-after.result in
    let one = put_filled (command c.c-item.result) before.items c.push.new.self.items parts.items c.default.result site
    second after (own_step c.c-item.result) (omega (arith, c.len-site.ensures, before.ok.0)) c.in_ok-push.ensures.items
    c.in_ok-second.ensures (omega (arith, c.len-after.ensures, parts.ok.0)) in
    λ s f. c.loop-c.invariant s (subst (λ y. IsFilled y before.items s) (sym e)
    (filled_both (command c.c-item.result) (sequence (drop (c.loop-c.c-index + 1) c.args.body.now)) before.items
    (set parts.items site (extent second after)) s one f))

pub put_all-returns : goal.put_all-returns
put_all-returns t c =
    c.loop-c.invariant c.loop-c.extents.items
    (subst (λ y. IsFilled y c.loop-c.extents.items c.loop-c.extents.items)
    (sym (at_end c.args.body.now c.loop-c.c-index c.loop-c-test.false)) (filled_none c.loop-c.extents.items))

pub put_parts-returns-in_ok-put_all-in-If-2 : goal.put_parts-returns-in_ok-put_all-in-If-2
put_parts-returns-in_ok-put_all-in-If-2 t c =
    let e = seen_if _ _ _ _ _ _ c.in-If.is c.deref.ensures.value c.deref-in-If.ensures.value in
    let second = c.len-second.result in
    let h = parts_if (expression c.in-If.guard) (sequence c.deref.result.now) (sequence c.deref-in-If.result.now)
    c.args.extents.now.items c.put_all.new.extents.items c.put_all-in-If.new.extents.items second
    (omega (arith, c.len-second.ensures, c.put_all.new.extents.ok.0)) c.in_ok-put_all-in-If.ensures
    c.in_ok-put_all-in-If-2.ensures in
    subst (λ y. AreParts y c.args.extents.now.items second c.put_all-in-If.new.extents.items) (sym e) h

pub put_parts-returns-in_ok-put_all-in-While : goal.put_parts-returns-in_ok-put_all-in-While
put_parts-returns-in_ok-put_all-in-While t c =
    parts_body c.args.c.now c.in-While.body c.deref-in-While.result.now c.args.extents.now.items
    c.put_all-in-While.new.extents.items c.len-in-While.result c.in-While.is c.deref-in-While.ensures.value
    (omega (arith, c.len-in-While.ensures, c.put_all-in-While.new.extents.ok.0)) c.in_ok-put_all-in-While.ensures
