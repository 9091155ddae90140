use Rattle.std.proofs.Common.{◌≡◌, length, map}
use Rattle.vsi_conform.specs.Reading.{are_apart, cycle}
use Rattle.vsi_conform.proofs.keys.repeated.Given as goal

-- The classes of the remaining boundaries differ exactly if those of all do.
abbrev pub invariant-loop-rest : goal.invariant-loop-rest
invariant-loop-rest l = are_apart (map cycle l.rest) ≡ are_apart (map cycle l.cycles)

abbrev pub decreases-loop-rest : goal.decreases-loop-rest
decreases-loop-rest l = length l.rest
