use Rattle.std.proofs.Common.{◌≡◌, ℕ, ◌/◌, ◌==◌, ◌&&◌, not, true, false, ap, ◌∙◌, refl, arith}
use Rattle.std.specs.Prelude.{nat_lt}
use Rattle.vsi_infer.specs.FlowRows.{flow_has}
use Rattle.vsi_infer.proofs.RowLemmas.{row_whole}
use Rattle.vsi_infer.proofs.ReachLemmas.{left_word, left_more, left_start}
use Rattle.vsi_infer.proofs.distances.leave_out.Goals as goal

pub loop-i-init : goal.loop-i-init
loop-i-init c = λ a. left_start (flow_has c.args.front.now 0 a) (flow_has c.args.reached.now 0 a) (a / 64)

pub loop-i-preserved : goal.loop-i-preserved
loop-i-preserved c = λ a.
    let w = flow_has c.args.reached.now 0 a in
    left_word c.loop-i.front _ c.args.reached.now c.loop-i.i (omega arith) refl a
    ∙ ap (λ x. x && not ((a / 64 == c.loop-i.i) && w)) (c.loop-i.invariant a)
    ∙ left_more (flow_has c.args.front.now 0 a) w (a / 64) c.loop-i.i

pub returns : goal.returns
returns c = λ a.
    let e : c.loop-i.i ≡ 16 = omega arith in
    let x = flow_has c.args.front.now 0 a in
    c.loop-i.invariant a
    ∙ ap (λ (i : ℕ). x && not (nat_lt (a / 64) i && flow_has c.args.reached.now 0 a)) e
    ∙ ap (λ t. x && not t) (row_whole c.args.reached.now 0 false true a)
