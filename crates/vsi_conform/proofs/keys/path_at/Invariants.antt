use Rattle.std.proofs.Common.{◌≡◌, length}
use Rattle.vsi_conform.specs.Beside as spec
use Rattle.vsi_conform.proofs.keys.path_at.Given as goal

-- A part of the rest is `..` exactly if a part of the path is.
abbrev pub invariant-loop-rest : goal.invariant-loop-rest
invariant-loop-rest l = spec.climbs l.rest ≡ spec.climbs l.path

abbrev pub decreases-loop-rest : goal.decreases-loop-rest
decreases-loop-rest l = length l.rest
