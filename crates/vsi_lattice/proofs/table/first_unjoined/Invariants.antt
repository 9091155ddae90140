use Rattle.std.proofs.Common.{◌<◌, ℕ}
use Rattle.vsi_lattice.specs.Order.{HasJoin}
use Rattle.vsi_lattice.specs.Pairs.{Says}
use Rattle.vsi_lattice.specs.Tables.{table_has}
use Rattle.vsi_lattice.proofs.table.first_unjoined.Given as goal

abbrev pub invariant-loop-a : goal.invariant-loop-a
invariant-loop-a l = (x y : ℕ) → x < l.a → y < l.count → HasJoin l.count (Says (table_has l.table)) x y

abbrev pub invariant-loop-b : goal.invariant-loop-b
invariant-loop-b l = (y : ℕ) → y < l.b → HasJoin l.count (Says (table_has l.table)) l.a y
