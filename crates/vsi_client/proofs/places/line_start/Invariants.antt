use Rattle.std.proofs.Common.{◌≡◌, ◌+◌, length}
use Rattle.vsi_client.specs.Places as spec
use Rattle.vsi_client.proofs.places.line_start.Given as goal

-- The bytes passed are those before the lines that are left.
abbrev pub invariant-loop-left : goal.invariant-loop-left
invariant-loop-left l =
    (l.start + spec.line_start l.left l.rest ≡ spec.line_start l.line l.text)
    × (l.start + length l.rest ≡ length l.text)

abbrev pub decreases-loop-left : goal.decreases-loop-left
decreases-loop-left l = l.left
