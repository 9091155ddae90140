use Rattle.std.proofs.Common.{arith, length, ◌<◌, ◌≤◌}
use Rattle.vsi_machine.proofs.Updating.{updated_more, updated_next, updated_all, meets_as}
use Rattle.vsi_machine.proofs.loops.join.Goals as goal

pub loop-slot-preserved : goal.loop-slot-preserved
loop-slot-preserved c =
    let u = c.loop-slot.invariant in
    let lt : c.loop-slot.slot < length c.loop-slot.facts = omega (arith, c.loop-slot-test.true, u.count) in
    let other : c.loop-slot.slot < length c.args.other.now = omega (arith, lt, u.count, c.requires) in
    updated_more _ _ _ _ _ u lt (meets_as _ _ _ _ _ _ c.met.ensures (updated_next _ _ _ _ _ u lt) other)

pub returns : goal.returns
returns c =
    let u = c.loop-slot.invariant in
    let le : length c.loop-slot.facts ≤ c.loop-slot.slot = omega (arith, c.loop-slot-test.false, u.count) in
    record { count = u.count; each = updated_all _ _ _ _ u le }
