use Rattle.std.proofs.Common.{◌≡◌, ◌<◌, ◌/◌, ◌%◌, ◌&&◌, ◌==◌, nat_lt, ℕ, false, get_or, length}
use Rattle.vsi_lattice.proofs.table.own_table.Given as goal

abbrev pub invariant-loop-i : goal.invariant-loop-i
invariant-loop-i l = record {
  len : length l.table.items ≡ l.i;
  each : (k : ℕ) → k < l.i → get_or l.table.items k false ≡ (nat_lt (k / 64) l.count && (k / 64 == k % 64));
}
