use Rattle.std.proofs.Common.{◌<◌, ℕ}
use Rattle.vsi_lattice.specs.Order.{IsJoin}
use Rattle.vsi_lattice.specs.Pairs.{Says}
use Rattle.vsi_lattice.specs.Tables.{table_has}
use Rattle.vsi_lattice.proofs.table.least_above.Given as goal

abbrev pub invariant-loop-c : goal.invariant-loop-c
invariant-loop-c l = (k : ℕ) → k < l.c → ¬ (IsJoin l.count (Says (table_has l.table)) l.a l.b k)
