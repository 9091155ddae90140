use Rattle.std.proofs.Common.{◌≡◌, ◌≤◌, length, map, take}
use Rattle.vsi_scope.specs.Places.{place_of}
use Rattle.vsi_scope.proofs.resolution.whole.innermost.Given as goal

abbrev pub invariant-loop-at : goal.invariant-loop-at
invariant-loop-at l =
    (l.at ≤ length l.names) × (place_of (map (λ x. x.now) l.names) l.name
    ≡ place_of (map (λ x. x.now) (take l.at l.names)) l.name)

abbrev pub decreases-loop-at : goal.decreases-loop-at
decreases-loop-at l = l.at
