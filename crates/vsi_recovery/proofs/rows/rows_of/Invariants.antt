use Rattle.std.proofs.Common.{◌≡◌, ◌<◌, ◌^◌, ℕ, true, get_or, vec_len}
use Rattle.vsi_lattice.specs.Pairs.{Leq}
use Rattle.vsi_lattice.specs.Rows.{row_has}
use Rattle.vsi_recovery.proofs.rows.rows_of.Given as goal

abbrev pub invariant-loop-a : goal.invariant-loop-a
invariant-loop-a l = record { len : vec_len l.rows ≡ l.a; each : (k : ℕ) → k < l.a → get_or l.rows.items k 0 ≡ 2 ^ k }

abbrev pub invariant-loop-i : goal.invariant-loop-i
invariant-loop-i l = record {
  len : vec_len l.rows ≡ l.count;
  sound : (a b : ℕ) → row_has l.rows.items a b ≡ true → Leq l.pairs a b;
}
