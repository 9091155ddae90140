use Rattle.std.proofs.Common.{◌≡◌, ◌<◌, ◌/◌, ◌%◌, ◌&&◌, ◌||◌, ℕ, false, get_or, length}
use Rattle.vsi_lattice.specs.Tables.{table_has}
use Rattle.vsi_lattice.proofs.table.with_pair.Given as goal

abbrev pub invariant-loop-i : goal.invariant-loop-i
invariant-loop-i l = record {
  len : length l.next.items ≡ l.i;
  each : (k : ℕ) → k < l.i → get_or l.next.items k false
      ≡ (table_has l.table (k / 64) (k % 64) || (table_has l.table (k / 64) l.low && table_has l.table l.high
      (k % 64)));
}
