use Rattle.std.proofs.Common.{◌≡◌, length, take}
use Rattle.vsi_lattice.specs.Rows.{IsClosureOf, IsTransposed}
use Rattle.vsi_lattice.specs.Tables.{table_has}
use Rattle.vsi_lattice.proofs.table.closed_tables.Given as goal

abbrev pub invariant-loop-i : goal.invariant-loop-i
invariant-loop-i l = record {
  above_len : length l.above.items ≡ 4096;
  below_len : length l.below.items ≡ 4096;
  above : IsClosureOf l.count (take l.i l.pairs) (table_has l.above.items);
  below : IsTransposed (table_has l.above.items) (table_has l.below.items);
}
