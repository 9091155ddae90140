use Rattle.std.proofs.Common.{◌≡◌, drop}
use Rattle.vsi_image.specs.Fields.{global, globals}
use Rattle.vsi_conform.specs.Points as spec
use Rattle.vsi_conform.proofs.conforming.Beside.entry_point.Given as goal

-- The search of the remaining globals finds what the search of all globals finds.
abbrev pub invariant-loop-place : goal.invariant-loop-place
invariant-loop-place l =
    spec.entry_point l.number (global l.wanted) l.place (globals (drop l.place l.self.found.now))
    ≡ spec.entry_point l.number (global l.wanted) 0 (globals l.self.found.now)
