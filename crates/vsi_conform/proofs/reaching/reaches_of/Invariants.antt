use Rattle.std.proofs.Common.{◌≡◌, ◌++◌, drop, map}
use Rattle.vsi_conform.specs.Reading as reading
use Rattle.vsi_conform.specs.Reaching as spec
use Rattle.vsi_conform.proofs.reaching.reaches_of.Given as goal

-- The released outputs so far and those of the remaining boundaries are all of them.
abbrev pub invariant-loop-cycle : goal.invariant-loop-cycle
invariant-loop-cycle l =
    map spec.released l.reaches.items ++ spec.all_released (spec.flowing l.flows) (map reading.cycle (drop l.cycle-index l.cycles))
    ≡ spec.all_released (spec.flowing l.flows) (map reading.cycle l.cycles)

-- The released outputs of the boundary so far and the remaining ones are all of them.
abbrev pub invariant-loop-output : goal.invariant-loop-output
invariant-loop-output l =
    map spec.released l.reaches.items
    ++ map (spec.released_at (spec.flowing l.flows) (reading.cycle l.cycle))
    (reading.bytes_of (drop l.output-index l.cycle.released.items))
    ≡ map spec.released l.initial.reaches.items ++ spec.released_by (spec.flowing l.flows) (reading.cycle l.cycle)
