use Rattle.std.proofs.Common.{◌≡◌, length, arith}
use Rattle.vsi_lattice.specs.Order.{HasJoin, HasMeet}
use Rattle.vsi_lattice.specs.Pairs.{IsFirstPair, IsCycle, Leq}
use Rattle.vsi_lattice.proofs.OrderLemmas.{first_cycle, acyclic, no_meet, is_lattice, is_declared, first_no_join, all_joins, up_holds, at_pair, mask_order, mask_lawful}
use Rattle.vsi_lattice.specs.declared.order.OrderError.TheVariants as errors
use Rattle.vsi_lattice.proofs.PairLemmas.{refuted}
use Rattle.vsi_lattice.proofs.order.MaskLattice.new.Goals as goal

pub returns-in-Some-clause-refused : goal.returns-in-Some-clause-refused
returns-in-Some-clause-refused c =
    let r = c.in-Ok.rows in let k = c.in-Ok.ensures in
    let eu : length r.above.items ≡ c.args.count = omega arith in
    let ed : length r.below.items ≡ c.args.count = omega arith in
    at_pair (IsFirstPair c.args.count (IsCycle c.args.count (Leq c.args.pairs.now))) c.at.ensures c.at-in-Some.ensures
    (first_cycle c.args.count c.args.pairs.now r.above.items r.below.items k.above k.below eu ed _ _
    c.in-Some.ensures.some)

pub returns-in-Some-first_apart_above-clause-refused : goal.returns-in-Some-first_apart_above-clause-refused
returns-in-Some-first_apart_above-clause-refused c =
    let r = c.in-Ok.rows in let k = c.in-Ok.ensures in
    let eu : length r.above.items ≡ c.args.count = omega arith in
    let ed : length r.below.items ≡ c.args.count = omega arith in (
      acyclic c.args.count c.args.pairs.now r.above.items r.below.items k.above k.below eu ed
          c.in_default-first_tied.ensures.none,
      at_pair (IsFirstPair c.args.count (λ x y. ¬ (HasJoin c.args.count (Leq c.args.pairs.now) x y)))
          c.at-in-Some-first_apart_above.ensures c.at-in-Some-first_apart_above-2.ensures
          (first_no_join (up_holds c.args.count c.args.pairs.now r.above.items r.below.items k.above k.below eu ed)
          c.in-Some-first_apart_above.ensures.some),
    )

pub returns-in-Some-first_apart_below-clause-refused : goal.returns-in-Some-first_apart_below-clause-refused
returns-in-Some-first_apart_below-clause-refused c =
    let r = c.in-Ok.rows in let k = c.in-Ok.ensures in
    let eu : length r.above.items ≡ c.args.count = omega arith in
    let ed : length r.below.items ≡ c.args.count = omega arith in (
      acyclic c.args.count c.args.pairs.now r.above.items r.below.items k.above k.below eu ed
          c.in_default-first_tied.ensures.none,
      all_joins (up_holds c.args.count c.args.pairs.now r.above.items r.below.items k.above k.below eu ed)
          c.in_default-first_apart_above.ensures.none,
      at_pair (IsFirstPair c.args.count (λ x y. ¬ (HasMeet c.args.count (Leq c.args.pairs.now) x y)))
          c.at-in-Some-first_apart_below.ensures c.at-in-Some-first_apart_below-2.ensures
          (no_meet c.args.count c.args.pairs.now r.above.items r.below.items k.above k.below eu ed _ _
          c.in-Some-first_apart_below.ensures.some),
    )

pub invariant_of-result : goal.invariant_of-result
invariant_of-result c =
    let r = c.in-Ok.rows in let k = c.in-Ok.ensures in
    let eu : length r.above.items ≡ c.args.count = omega arith in
    let ed : length r.below.items ≡ c.args.count = omega arith in
    let tied = c.in_default-first_tied.ensures.none in
    let joins = c.in_default-first_apart_above.ensures.none in
    let meets = c.in_default-first_apart_below.ensures.none in
    let bottom = c.bottom-bottom.ensures in
    let top = c.top-top.ensures in
    record {
      rows = mask_order c.args.count c.args.pairs.now r.above.items r.below.items k.above k.below eu ed
          c.requires.some c.requires.small
          joins meets;
      lawful = mask_lawful c.args.count c.args.pairs.now r.above.items r.below.items k.above k.below eu ed tied
          joins meets
          bottom.within bottom.least top.within top.greatest;
    }

pub returns-clause-lattice : goal.returns-clause-lattice
returns-clause-lattice c =
    let r = c.in-Ok.rows in let k = c.in-Ok.ensures in
    let eu : length r.above.items ≡ c.args.count = omega arith in
    let ed : length r.below.items ≡ c.args.count = omega arith in
    is_lattice c.args.count c.args.pairs.now r.above.items r.below.items k.above k.below eu ed
    c.in_default-first_tied.ensures.none c.in_default-first_apart_above.ensures.none
    c.in_default-first_apart_below.ensures.none

pub returns-clause-order : goal.returns-clause-order
returns-clause-order c =
    let r = c.in-Ok.rows in let k = c.in-Ok.ensures in
    let eu : length r.above.items ≡ c.args.count = omega arith in
    let ed : length r.below.items ≡ c.args.count = omega arith in
    is_declared c.args.count c.args.pairs.now r.above.items r.below.items k.above k.below eu ed _ _

pub returns-in-Some-first_apart_above-clause-accepted : goal.returns-in-Some-first_apart_above-clause-accepted
returns-in-Some-first_apart_above-clause-accepted c l =
    refuted (errors.NoJoin c.at-in-Some-first_apart_above.result c.at-in-Some-first_apart_above-2.result)
    (returns-in-Some-first_apart_above-clause-refused c) l

pub returns-in-Some-first_apart_below-clause-accepted : goal.returns-in-Some-first_apart_below-clause-accepted
returns-in-Some-first_apart_below-clause-accepted c l =
    refuted (errors.NoMeet c.at-in-Some-first_apart_below.result c.at-in-Some-first_apart_below-2.result)
    (returns-in-Some-first_apart_below-clause-refused c) l
