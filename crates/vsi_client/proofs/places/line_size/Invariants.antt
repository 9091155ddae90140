use Rattle.std.proofs.Common.{◌≡◌, ◌+◌, length}
use Rattle.vsi_client.specs.Places as spec
use Rattle.vsi_client.proofs.places.line_size.Given as goal

-- The bytes passed and the rest are the text, and none of those passed ends a line.
abbrev pub invariant-loop-rest : goal.invariant-loop-rest
invariant-loop-rest l =
    (l.count + spec.line_size l.rest ≡ spec.line_size l.text) × (l.count + length l.rest ≡ length l.text)

abbrev pub decreases-loop-rest : goal.decreases-loop-rest
decreases-loop-rest l = length l.rest
