use Rattle.std.proofs.Common.{map, sym, arith}
use Rattle.vsi_infer.proofs.LevelLemmas.{lower_none, lower_some, lower_all, fewer}
use Rattle.vsi_infer.proofs.distances.fewest.Goals as goal

pub loop-v-preserved-in_default : goal.loop-v-preserved-in_default
loop-v-preserved-in_default c = record {
  lower = lower_none c.args.declared.now (map (λ r. r.items) c.args.rows.now) c.loop-v.best c.loop-v.v _
      c.loop-v-test.true c.in_default.not-Some c.loop-v.invariant.lower;
  attained = c.loop-v.invariant.attained;
}

pub loop-v-preserved : goal.loop-v-preserved
loop-v-preserved c =
    let ds = c.args.declared.now in
    let rows = map (λ r. r.items) c.args.rows.now in
    let m = c.min-best.ensures in
    let f = c.far_at.ensures in
    record {
      lower = lower_some ds rows c.loop-v.best c.min-best.result c.loop-v.v c.in-Some.class _ c.loop-v-test.true
          c.in-Some.is (omega (arith, m)) (omega (arith, m, f)) c.loop-v.invariant.lower;
      attained = fewer ds rows c.loop-v.best c.far_at.result c.min-best.result c.loop-v.v c.in-Some.class _
          c.loop-v-test.true c.in-Some.is m (sym f) c.loop-v.invariant.attained;
    }

pub returns : goal.returns
returns c = record {
  lower = lower_all c.args.declared.now (map (λ r. r.items) c.args.rows.now) c.loop-v.best c.loop-v.v
      c.loop-v-test.false c.loop-v.invariant.lower;
  attained = c.loop-v.invariant.attained;
}
