use Rattle.std.proofs.Common.{◌≡◌, drop}
use Rattle.vsi_image.specs.Fields.{globals}
use Rattle.vsi_conform.specs.Points as spec
use Rattle.vsi_conform.proofs.conforming.Beside.first_difference.Given as goal

-- The first difference of the remaining globals is that of all.
abbrev pub invariant-loop-place : goal.invariant-loop-place
invariant-loop-place l =
    spec.first_difference l.place (globals (drop l.place l.self.wanted.now)) (globals (drop l.place l.self.found.now))
    ≡ spec.first_difference 0 (globals l.self.wanted.now) (globals l.self.found.now)
