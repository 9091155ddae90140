use Rattle.std.proofs.Common.{◌≤◌, ◌+◌, length}
use Rattle.vsi_client.specs.Places.{IsPlaced}
use Rattle.vsi_client.proofs.Placing.{Follows}
use Rattle.vsi_client.proofs.places.place_of.Given as goal

-- The lines passed are before the rest, in which the place is so many bytes away.
abbrev pub invariant-loop-size : goal.invariant-loop-size
invariant-loop-size l =
    (IsPlaced l.text l.at → Follows l.encoding l.text l.at l.line l.rest l.left)
    × (l.line + length l.rest ≤ length l.text)

abbrev pub decreases-loop-size : goal.decreases-loop-size
decreases-loop-size l = length l.rest
