use Rattle.std.proofs.Common.{◌≡◌, ◌++◌, map, take, drop}
use Rattle.vsi_lattice.specs.Rows.{widened}
use Rattle.vsi_recovery.proofs.rows.add_pair.Given as goal

abbrev pub invariant-loop-row : goal.invariant-loop-row
invariant-loop-row l =
    l.rows ≡ map (widened l.low l.reached) (take l.row-index l.initial.rows) ++ drop l.row-index l.initial.rows
