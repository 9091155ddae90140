use Rattle.std.proofs.Common.{◌<◌, ℕ}
use Rattle.vsi_lattice.specs.Pairs.{Says, IsCycle}
use Rattle.vsi_lattice.specs.Tables.{table_has}
use Rattle.vsi_lattice.proofs.table.first_cycle.Given as goal

abbrev pub invariant-loop-a : goal.invariant-loop-a
invariant-loop-a l = (x y : ℕ) → x < l.a → y < l.count → ¬ (IsCycle l.count (Says (table_has l.table)) x y)

abbrev pub invariant-loop-b : goal.invariant-loop-b
invariant-loop-b l = (y : ℕ) → y < l.b → ¬ (IsCycle l.count (Says (table_has l.table)) l.a y)
