use Rattle.std.proofs.Common.{◌≡◌, ◌≤◌, ◌<◌, ◌+◌, ◌*◌, ◌^◌, length}
use Rattle.vsi_client.specs.Places as spec
use Rattle.vsi_client.proofs.places.units_in.Given as goal

-- The code units counted and those of the rest are those of the text, unless it is too long.
abbrev pub invariant-loop-rest : goal.invariant-loop-rest
invariant-loop-rest l =
    (length l.text < 2 ^ 62 →
    (l.count + spec.units_in l.encoding l.rest ≡ spec.units_in l.encoding l.text)
    × (l.count + 4 * length l.rest ≤ 4 * length l.text))

abbrev pub decreases-loop-rest : goal.decreases-loop-rest
decreases-loop-rest l = length l.rest
