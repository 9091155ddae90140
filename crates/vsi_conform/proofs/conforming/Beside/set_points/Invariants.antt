use Rattle.std.proofs.Common.{◌≡◌, ◌++◌, drop}
use Rattle.vsi_image.specs.Fields.{globals}
use Rattle.vsi_conform.specs.Points as spec
use Rattle.vsi_conform.proofs.conforming.Beside.set_points.Given as goal

-- The points so far and those of the remaining required globals are all points of these.
abbrev pub invariant-loop-number : goal.invariant-loop-number
invariant-loop-number l =
    l.points.items ++ spec.entry_points l.number (globals (drop l.number l.self.wanted.now)) (globals l.self.found.now)
    ≡ spec.entry_points 0 (globals l.self.wanted.now) (globals l.self.found.now)

-- The points so far and those of the remaining globals are all points.
abbrev pub invariant-loop-place : goal.invariant-loop-place
invariant-loop-place l =
    l.points.items ++ spec.unexpected_points l.place (globals l.self.wanted.now) (globals (drop l.place l.self.found.now))
    ≡ spec.set_points (globals l.self.wanted.now) (globals l.self.found.now)
