use Rattle.std.proofs.Common.{rules, ◌≡◌, ◌≤◌, ◌<◌, ℕ, pos, slice_set, length, arith}
use Rattle.vsi_lattice.specs.LatticeView.{class_named, order}
use Rattle.vsi_leak.specs.Leaks.{ShowNoneEither, zeros}
use Rattle.vsi_leak.proofs.Ones.{one_more}
use Rattle.vsi_leak.proofs.search.leak_of_ones.Goals as goal

pub loop-place-preserved : goal.loop-place-preserved
loop-place-preserved c =
    let known = class_named c.args.lattice.now in
    let L = order c.args.lattice.now in
    let m = c.in_ok-first.first.items in
    let here : ShowNoneEither known L c.args.verified.now c.args.budget c.args.sign c.args.class m
    (slice_set m c.loop-place.place (pos 1)) = search rules in (
      c.loop-place.invariant.0,
      one_more known L c.args.verified.now c.args.budget c.args.sign c.args.class c.loop-place.place m
          c.loop-place.invariant.0 c.loop-place.invariant.1 here,
    )

pub returns-clause-none : goal.returns-clause-none
returns-clause-none c = λ i lt.
    let all : length c.args.verified.now.globals.items ≤ c.loop-place.place = search rules in
    c.loop-place.invariant.1 i (omega (arith, lt, all))
