use Rattle.std.proofs.Common.{length, arith}
use Rattle.vsi_scope.specs.View.{sequence}
use Rattle.vsi_opt.proofs.Numbers.{number_below, entries_more, entries_end}
use Rattle.vsi_opt.proofs.optimiser.remaining_entries.Goals as goal

pub overflow_add-n : goal.overflow_add-n
overflow_add-n c =
    let h = number_below _ _ _ (sequence c.args.body.now) (length c.args.entries.now) c.loop-n.n-index
    c.deref-n-items.ensures.value c.in_ok-pick_all.ensures.1 c.new-numbers.ensures.items
    (omega (arith, c.requires.entries)) c.loop-n-test.true in
    omega (arith, h, c.requires.limit)

pub offset_bounds-entries-n : goal.offset_bounds-entries-n
offset_bounds-entries-n c =
    let h = number_below _ _ _ (sequence c.args.body.now) (length c.args.entries.now) c.loop-n.n-index
    c.deref-n-items.ensures.value c.in_ok-pick_all.ensures.1 c.new-numbers.ensures.items
    (omega (arith, c.requires.entries)) c.loop-n-test.true in
    omega (arith, h, c.requires.limit)

pub slice_bounds-extend_from_slice-end : goal.slice_bounds-extend_from_slice-end
slice_bounds-extend_from_slice-end c =
    let h = number_below _ _ _ (sequence c.args.body.now) (length c.args.entries.now) c.loop-n.n-index
    c.deref-n-items.ensures.value c.in_ok-pick_all.ensures.1 c.new-numbers.ensures.items
    (omega (arith, c.requires.entries)) c.loop-n-test.true in
    omega (arith, h, c.requires.limit)

pub loop-n-preserved : goal.loop-n-preserved
loop-n-preserved c =
    let h = number_below _ _ _ (sequence c.args.body.now) (length c.args.entries.now) c.loop-n.n-index
    c.deref-n-items.ensures.value c.in_ok-pick_all.ensures.1 c.new-numbers.ensures.items
    (omega (arith, c.requires.entries)) c.loop-n-test.true in
    entries_more c.args.entries.now c.loop-n.out.items _ c.deref-n-items.result.now c.loop-n.n-index
    c.loop-n-test.true h c.in_ok-extend_from_slice.ensures.items c.loop-n.invariant

pub returns : goal.returns
returns c =
    entries_end c.args.entries.now c.loop-n.out.items _ _ _ (sequence c.args.body.now) c.loop-n.n-index
    c.deref-n-items.ensures.value c.in_ok-pick_all.ensures.1 c.new-numbers.ensures.items c.loop-n-test.false
    c.loop-n.invariant
