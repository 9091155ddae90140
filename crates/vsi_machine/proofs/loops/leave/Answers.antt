use Rattle.std.proofs.Common.{arith, length, ◌<◌, ◌≤◌, ℤ, subst, w64}
use Rattle.std.proofs.lemmas.Int.{ints, to_z-of_z}
use Rattle.vsi_machine.specs.Loops.{Remain}
use Rattle.vsi_machine.proofs.Updating.{updated_more, updated_next, updated_all, remains_as}
use Rattle.vsi_machine.proofs.loops.leave.Goals as goal

pub loop-k-preserved : goal.loop-k-preserved
loop-k-preserved c =
    let u = c.loop-k.invariant in
    let lt : c.loop-k.k < length c.loop-k.facts = omega (arith, c.loop-k-test.true, u.count) in
    let first : c.loop-k.k < length c.args.entry.now = omega (arith, lt, u.count, c.requires.entry) in
    let second : c.loop-k.k < length c.args.turned.now = omega (arith, lt, u.count, c.requires.turned) in
    updated_more _ _ _ _ _ u lt
    (remains_as _ _ _ _ _ _ _ _ _ _ _ c.left.ensures (updated_next _ _ _ _ _ u lt)
    c.are_same-is_same.ensures.same
    c.are_same-is_same.ensures.other first second (omega (arith, ints)))

pub returns : goal.returns
returns c =
    let u = c.loop-k.invariant in
    let le : length c.loop-k.facts ≤ c.loop-k.k = omega (arith, c.loop-k-test.false, u.count) in
    subst (λ (z : ℤ). Remain c.args.facts.now c.args.entry.now c.args.turned.now c.args.slot z c.loop-k.facts)
    (to_z-of_z w64 c.args.last c.ranges.last) (record { count = u.count; each = updated_all _ _ _ _ u le })
