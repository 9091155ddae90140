use Rattle.std.proofs.Common.{take}
use Rattle.vsi_lattice.specs.Pairs.{ArePairsBelow}
use Rattle.vsi_recovery.proofs.rows.are_below.Given as goal

abbrev pub invariant-loop-i : goal.invariant-loop-i
invariant-loop-i l = ArePairsBelow l.count (take l.i l.pairs)
