use Rattle.std.proofs.Common.{◌≡◌, ◌+◌, length}
use Rattle.vsi_client.specs.Places as spec
use Rattle.vsi_client.proofs.places.in_line.Given as goal

-- The bytes passed are those of whole characters before the position.
abbrev pub invariant-loop-rest : goal.invariant-loop-rest
invariant-loop-rest l =
    (l.count + spec.in_line l.encoding l.left l.rest ≡ spec.in_line l.encoding l.character l.text)
    × (l.count + length l.rest ≡ length l.text)

abbrev pub decreases-loop-rest : goal.decreases-loop-rest
decreases-loop-rest l = length l.rest
