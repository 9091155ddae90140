use Rattle.std.proofs.Common.{arith}
use Rattle.vsi_infer.specs.FlowRows.{flow_has}
use Rattle.vsi_infer.proofs.ReachLemmas.{no_bits, has_small, spread_skip, spread_numbered, spread_collected, spread_quiet}
use Rattle.vsi_infer.proofs.distances.spread.Goals as goal

pub loop-v-preserved-then-front-v-eq0 : goal.loop-v-preserved-then-front-v-eq0
loop-v-preserved-then-front-v-eq0 c =
    spread_skip (λ a b. flow_has c.args.rows.now b a) (flow_has c.args.front.now 0) c.args.level c.requires.small
    c.args.far.now c.loop-v.v c.loop-v.far (flow_has c.loop-v.next 0) c.loop-v.more c.loop-v.invariant _ (omega arith)
    (λ u le lt. no_bits c.args.front.now c.loop-v.v u (omega (arith, c.if-front-v-eq0.true)) (omega (arith, le, lt)))

pub returns-clause-numbered : goal.returns-clause-numbered
returns-clause-numbered c =
    spread_numbered (λ a b. flow_has c.args.rows.now b a) (flow_has c.args.front.now 0) c.args.level c.requires.small
    c.args.far.now c.loop-v.far (flow_has c.loop-v.next 0) c.loop-v.more c.loop-v.v (has_small c.args.front.now 0)
    c.loop-v-test.false c.loop-v.invariant

pub returns-clause-collected : goal.returns-clause-collected
returns-clause-collected c =
    spread_collected (λ a b. flow_has c.args.rows.now b a) (flow_has c.args.front.now 0) c.args.level c.requires.small
    c.args.far.now c.loop-v.far (flow_has c.loop-v.next 0) c.loop-v.more c.loop-v.v (has_small c.args.front.now 0)
    c.loop-v-test.false c.loop-v.invariant

pub returns-clause-quiet : goal.returns-clause-quiet
returns-clause-quiet c =
    spread_quiet (λ a b. flow_has c.args.rows.now b a) (flow_has c.args.front.now 0) c.args.level c.requires.small
    c.args.far.now c.loop-v.far (flow_has c.loop-v.next 0) c.loop-v.more c.loop-v.v (has_small c.args.front.now 0)
    c.loop-v-test.false c.loop-v.invariant
