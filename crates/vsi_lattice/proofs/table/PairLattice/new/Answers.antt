use Rattle.std.proofs.Common.{◌≡◌, ◌<◌, ℕ, true, sym, subst, List, Bool}
use Rattle.vsi_lattice.specs.Order.{HasJoin, HasMeet}
use Rattle.vsi_lattice.specs.Pairs.{Leq, IsCycle, IsFirstPair}
use Rattle.vsi_lattice.specs.Tables.{table_has}
use Rattle.vsi_lattice.specs.declared.order.OrderError.TheVariants as errors
use Rattle.vsi_lattice.proofs.OrderLemmas.{at_pair}
use Rattle.vsi_lattice.proofs.PairLemmas.{refuted, first_declared_cycle, first_declared_no_join, first_declared_no_meet, no_declared_cycle, all_declared_joins, makes_lattice, is_declared_by, lawful_by}
use Rattle.vsi_lattice.proofs.TableLemmas.{no_cycle_of, joins_of, cycle_of, unjoined_of}
use Rattle.vsi_lattice.proofs.table.PairLattice.new.Goals as goal

pub returns-in-Some-clause-refused : goal.returns-in-Some-clause-refused
returns-in-Some-clause-refused c =
    let k = c.in-Ok.ensures in
    at_pair (IsFirstPair c.args.count (IsCycle c.args.count (Leq c.args.pairs.now))) c.at.ensures c.at-in-Some.ensures
    (first_declared_cycle k.above k.below (cycle_of c.deref.ensures.value c.in-Some.ensures.some))

pub returns-in-Some-first_unjoined-clause-refused : goal.returns-in-Some-first_unjoined-clause-refused
returns-in-Some-first_unjoined-clause-refused c =
    let k = c.in-Ok.ensures in
    let acyclic = no_cycle_of c.deref.ensures.value c.in_default-first_cycle.ensures.none in (
      no_declared_cycle k.above k.below acyclic,
      at_pair (IsFirstPair c.args.count (λ x y. ¬ (HasJoin c.args.count (Leq c.args.pairs.now) x y)))
          c.at-in-Some-first_unjoined.ensures
          c.at-in-Some-first_unjoined-2.ensures
          (first_declared_no_join k.above k.below
          (unjoined_of c.deref-2.ensures.value c.in-Some-first_unjoined.ensures.some)),
    )

pub returns-in-Some-first_unjoined-2-clause-refused : goal.returns-in-Some-first_unjoined-2-clause-refused
returns-in-Some-first_unjoined-2-clause-refused c =
    let k = c.in-Ok.ensures in
    let acyclic = no_cycle_of c.deref.ensures.value c.in_default-first_cycle.ensures.none in
    let joins = joins_of c.deref-2.ensures.value c.in_default-first_unjoined.ensures.none in (
      no_declared_cycle k.above k.below acyclic,
      all_declared_joins k.above k.below joins,
      at_pair (IsFirstPair c.args.count (λ x y. ¬ (HasMeet c.args.count (Leq c.args.pairs.now) x y)))
          c.at-in-Some-first_unjoined-2-2.ensures
          c.at-in-Some-first_unjoined-2-3.ensures
          (first_declared_no_meet k.above k.below
          (unjoined_of c.deref-3.ensures.value c.in-Some-first_unjoined-2.ensures.some)),
    )

pub returns-in-Some-first_unjoined-clause-accepted : goal.returns-in-Some-first_unjoined-clause-accepted
returns-in-Some-first_unjoined-clause-accepted c l =
    refuted (errors.NoJoin c.at-in-Some-first_unjoined.result c.at-in-Some-first_unjoined-2.result)
    (returns-in-Some-first_unjoined-clause-refused c) l

pub returns-in-Some-first_unjoined-2-clause-accepted : goal.returns-in-Some-first_unjoined-2-clause-accepted
returns-in-Some-first_unjoined-2-clause-accepted c l =
    refuted (errors.NoMeet c.at-in-Some-first_unjoined-2-2.result c.at-in-Some-first_unjoined-2-3.result)
    (returns-in-Some-first_unjoined-2-clause-refused c) l

pub greatest-bottom-requires-clause-joins : goal.greatest-bottom-requires-clause-joins
greatest-bottom-requires-clause-joins c =
    joins_of (sym c.deref-4.ensures.value)
    (joins_of c.deref-3.ensures.value c.in_default-first_unjoined-2.ensures.none)

pub greatest-top-requires-clause-joins : goal.greatest-top-requires-clause-joins
greatest-top-requires-clause-joins c =
    joins_of (sym c.deref-5.ensures.value) (joins_of c.deref-2.ensures.value c.in_default-first_unjoined.ensures.none)

pub invariant_of-result : goal.invariant_of-result
invariant_of-result c =
    let k = c.in-Ok.ensures in
    let acyclic = no_cycle_of c.deref.ensures.value c.in_default-first_cycle.ensures.none in
    let joins = joins_of c.deref-2.ensures.value c.in_default-first_unjoined.ensures.none in
    let meets = joins_of c.deref-3.ensures.value c.in_default-first_unjoined-2.ensures.none in
    let bottom = c.greatest-bottom in let top = c.greatest-top in
    record {
      tables = record { small = c.requires.small; above_len = k.above_len; below_len = k.below_len; dual = k.below };
      lawful = lawful_by k.above k.below acyclic joins meets bottom.ensures.within
          (subst (λ (t : List Bool). (a : ℕ) → a < c.args.count →
          table_has t a bottom.result ≡ true) c.deref-4.ensures.value bottom.ensures.greatest)
          top.ensures.within
          (subst (λ (t : List Bool). (a : ℕ) → a < c.args.count →
          table_has t a top.result ≡ true) c.deref-5.ensures.value top.ensures.greatest);
    }

pub returns-clause-lattice : goal.returns-clause-lattice
returns-clause-lattice c =
    let k = c.in-Ok.ensures in
    let acyclic = no_cycle_of c.deref.ensures.value c.in_default-first_cycle.ensures.none in
    let joins = joins_of c.deref-2.ensures.value c.in_default-first_unjoined.ensures.none in
    let meets = joins_of c.deref-3.ensures.value c.in_default-first_unjoined-2.ensures.none in
    makes_lattice k.above k.below acyclic joins meets

pub returns-clause-order : goal.returns-clause-order
returns-clause-order c =
    is_declared_by c.in-Ok.ensures.above c.in-Ok.ensures.below c.greatest-bottom.result c.greatest-top.result
