use Rattle.std.proofs.Common.{◌≡◌, ℕ, map, length, get_or, []}
use Rattle.vsi_infer.proofs.distances.empty_rows.Given as goal

abbrev pub invariant-loop-i : goal.invariant-loop-i
invariant-loop-i l = record {
  len : length l.rows.items ≡ l.i;
  empty : (k : ℕ) → get_or (map (λ r. r.items) l.rows.items) k [] ≡ [];
}
