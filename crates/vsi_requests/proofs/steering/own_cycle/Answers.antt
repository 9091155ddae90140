use Rattle.std.proofs.Common.{◌≡◌, ◌∙◌, false, ap, sym, subst, length, map, arith, bytes_eq}
use Rattle.std.specs.Vec.Iter.{into_iter_steps}
use Rattle.vsi_conform.specs.Reading.{cycle}
use Rattle.vsi_subject.specs.Boundaries.{table_of}
use Rattle.vsi_requests.proofs.Steered.{later_table}
use Rattle.vsi_requests.proofs.steering.own_cycle.Goals as goal

pub loop-cycle-init : goal.loop-cycle-init
loop-cycle-init c =
    let made = c.into_iter-cycle-iterator.ensures.into_iter_gives in
    record {
      whole = made.1 ∙ c.args.cycles.ok.0 ∙ ap length (sym made.0);
      same = ap (λ cs. table_of (map cycle cs) c.args.class.now) made.0;
    }

pub loop-cycle-preserved : goal.loop-cycle-preserved
loop-cycle-preserved c =
    let step = subst (λ r. into_iter_steps c.loop-cycle.cycle-iterator r c.next.new.self) c.in-Some.is
    c.next.ensures.steps in
    let other : bytes_eq c.in-Some.cycle.class.items c.args.class.now ≡ false =
    ap (λ b. bytes_eq b c.args.class.now) (sym c.as_slice.ensures.value) ∙ sym c.eq.ensures ∙ c.if-eq.false in
    record {
      whole = omega (arith, step.1, ap length step.0, c.loop-cycle.invariant.whole);
      same = later_table _ _ c.in-Some.cycle c.args.class.now _ step.0 other c.loop-cycle.invariant.same;
    }
