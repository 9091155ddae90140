use Rattle.std.proofs.Common.{arith, ◌<◌, ℕ, length, below_more}
use Rattle.vsi_lattice.specs.Rows.{HasCommon}
use Rattle.vsi_lattice.proofs.rows.first_apart.Goals as goal

pub returns-in_default-clause-some : goal.returns-in_default-clause-some
returns-in_default-clause-some c = record {
  a_within = c.loop-a-test.true;
  b_within = c.loop-b-test.true;
  holds = c.in_default.ensures.none;
  earlier = λ x y hx hy none. let h = c.loop-a.invariant x y hx hy in none h.0 h.1 h.2;
  before = λ y hy none. let h = c.loop-b.invariant y hy in none h.0 h.1 h.2;
}

pub loop-b-preserved : goal.loop-b-preserved
loop-b-preserved c = below_more (λ y. HasCommon c.args.rows.now c.loop-a.a y) c.loop-b.b c.loop-b.invariant
    (c.in-Some.field-0, c.in-Some.ensures.some.0, c.in-Some.ensures.some.1)

pub loop-a-preserved : goal.loop-a-preserved
loop-a-preserved c x y hx hy =
    below_more (λ x. (y : ℕ) → y < length c.args.rows.now → HasCommon c.args.rows.now x y) c.loop-a.a
    (λ x p y q. c.loop-a.invariant x y p q) (λ y q. c.loop-b.invariant y (omega (arith, q))) x hx y hy
