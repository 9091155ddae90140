use Rattle.std.proofs.Common.{◌+◌, ◌≤◌, true, get_or, ap, ◌∙◌, subst, refl, arith}
use Rattle.vsi_infer.specs.FlowRows.{flow_has}
use Rattle.vsi_infer.specs.Distances.{unreached}
use Rattle.vsi_infer.specs.Reach.{IsNumbered, IsCollected}
use Rattle.vsi_infer.proofs.RowsOf.{all_zero}
use Rattle.vsi_infer.proofs.ReachLemmas.{has_small, fresh_free, level_more, level_last, written}
use Rattle.vsi_infer.proofs.distances.fewest_flows.Goals as goal

pub spread-requires-clause-free : goal.spread-requires-clause-free
spread-requires-clause-free c = λ v h.
    ap (λ l. get_or l v 0) c.deref_mut.ensures.value
    ∙ fresh_free (λ a b. flow_has c.args.flow.now.rows.items b a) c.args.count c.args.place c.requires.small
    c.requires.within c.levels.level c.levels.far.items (flow_has c.levels.reached 0) (flow_has c.levels.front 0)
    (flow_has c.leave_out.new.front 0) (flow_has c.note_row.new.rows 0) c.levels.invariant
    (has_small c.levels.front 0) c.leave_out.ensures v h

pub spread-requires-clause-none : goal.spread-requires-clause-none
spread-requires-clause-none c = λ v. all_zero 16 _ refl v 0

pub returns-then-not-spread : goal.returns-then-not-spread
returns-then-not-spread c =
    level_last (λ a b. flow_has c.args.flow.now.rows.items b a) c.args.count c.args.place c.requires.small
    c.requires.within c.levels.level c.levels.far.items (flow_has c.levels.reached 0) (flow_has c.levels.front 0)
    (flow_has c.leave_out.new.front 0) (flow_has c.note_row.new.rows 0) c.levels.invariant
    (has_small c.levels.front 0) c.leave_out.ensures c.spread.new.far
    (subst (λ l. IsNumbered (flow_has c.leave_out.new.front 0) c.levels.level l c.spread.new.far)
    c.deref_mut.ensures.value c.if-not-spread.ensures.numbered)
    (c.if-not-spread.ensures.quiet refl) (omega (
      arith,
      c.levels.invariant.bound,
      c.requires.small,
    )) _ (written c.levels.far.len c.spread.new.far _ (omega arith))

pub levels-preserved : goal.levels-preserved
levels-preserved c =
    level_more (λ a b. flow_has c.args.flow.now.rows.items b a) c.args.count c.args.place c.requires.small
    c.requires.within c.levels.level c.levels.far.items (flow_has c.levels.reached 0) (flow_has c.levels.front 0)
    (flow_has c.leave_out.new.front 0) (flow_has c.note_row.new.rows 0) c.levels.invariant
    (has_small c.levels.front 0) c.leave_out.ensures c.spread.new.far (flow_has c.spread.new.next 0) true
    (subst (λ l. IsNumbered (flow_has c.leave_out.new.front 0) c.levels.level l c.spread.new.far)
    c.deref_mut.ensures.value c.if-not-spread.ensures.numbered) (λ a. c.note_row.ensures.bits a 0)
    (subst (λ l. IsCollected (λ a b. flow_has l b a) (flow_has c.leave_out.new.front 0) (flow_has c.spread.new.next 0))
    c.deref-in-levels.ensures.value c.if-not-spread.ensures.collected)
    (subst (λ l. unreached c.spread.new.far + 1 ≤ unreached l) c.deref_mut.ensures.value
    c.if-not-spread.ensures.fewer) refl (omega (
      arith,
      c.levels.invariant.bound,
      c.requires.small,
    )) _ (written c.levels.far.len c.spread.new.far _ (omega arith))
