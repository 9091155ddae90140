use Rattle.std.proofs.Common.{length}
use Rattle.vsi_recovery.specs.Listed.{AreListed}
use Rattle.vsi_recovery.proofs.walk.are_listed.Given as goal

-- If what is left is listed after the byte, the whole list is.
abbrev pub invariant-loop-rest : goal.invariant-loop-rest
invariant-loop-rest l = AreListed l.from (length l.text) l.rest → AreListed 0 (length l.text) l.faults

abbrev pub decreases-loop-rest : goal.decreases-loop-rest
decreases-loop-rest l = length l.rest
