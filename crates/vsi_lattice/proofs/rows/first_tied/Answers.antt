use Rattle.std.proofs.Common.{arith, ◌<◌, ℕ, length, below_more}
use Rattle.vsi_lattice.specs.Rows.{AreTied}
use Rattle.vsi_lattice.proofs.JoinLemmas.{tied_from, from_tied}
use Rattle.vsi_lattice.proofs.rows.first_tied.Goals as goal

pub returns-in-Some-clause-some : goal.returns-in-Some-clause-some
returns-in-Some-clause-some c =
    let some = c.in-Some.ensures.some in
    let tied : AreTied c.args.above.now c.args.below.now c.loop-a.a c.in-Some.b =
    tied_from c.args.above.now c.args.below.now c.loop-a.a c.in-Some.b some.1 in
    record {
      a_within = c.loop-a-test.true;
      b_within = c.requires.within c.loop-a.a c.in-Some.b tied.1;
      holds = tied;
      earlier = λ x y hx hy h. c.loop-a.invariant x y hx hy h;
      before = λ y hy h. some.2 y hy (from_tied c.args.above.now c.args.below.now c.loop-a.a y h);
    }

pub loop-a-preserved : goal.loop-a-preserved
loop-a-preserved c x y hx hy h =
    below_more (λ x. (y : ℕ) → y < length c.args.above.now →
    ¬ (AreTied c.args.above.now c.args.below.now x y)) c.loop-a.a
    (λ x p y q h. c.loop-a.invariant x y p q h)
    (λ y q h. c.in_default.ensures.none y (omega (arith, q, c.requires.count))
    (from_tied c.args.above.now c.args.below.now c.loop-a.a y h)) x hx y hy h
