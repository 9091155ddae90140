use Rattle.std.proofs.Common.{◌≡◌, drop, map}
use Rattle.vsi_conform.specs.Reading as reading
use Rattle.vsi_conform.specs.Reaching as spec
use Rattle.vsi_conform.proofs.reaching.have_released.Given as goal

-- A remaining boundary releases an output exactly if one of all does.
abbrev pub invariant-loop-cycle : goal.invariant-loop-cycle
invariant-loop-cycle l =
    spec.releases (map reading.cycle (drop l.cycle-index l.cycles)) ≡ spec.releases (map reading.cycle l.cycles)
