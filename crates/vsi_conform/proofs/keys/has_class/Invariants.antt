use Rattle.std.proofs.Common.{◌≡◌, length, map}
use Rattle.vsi_conform.specs.Reading.{cycle, has_class}
use Rattle.vsi_conform.proofs.keys.has_class.Given as goal

-- The class is that of one of the remaining boundaries exactly if it is that of one of all.
abbrev pub invariant-loop-rest : goal.invariant-loop-rest
invariant-loop-rest l = has_class (map cycle l.rest) l.class ≡ has_class (map cycle l.cycles) l.class

abbrev pub decreases-loop-rest : goal.decreases-loop-rest
decreases-loop-rest l = length l.rest
