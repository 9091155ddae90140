use Rattle.std.proofs.Common.{◌≡◌, ◌<◌, ℕ, length, true}
use Rattle.vsi_lattice.specs.Rows.{row_has}
use Rattle.vsi_lattice.proofs.rows.last_class.Given as goal

abbrev pub invariant-loop-a : goal.invariant-loop-a
invariant-loop-a l = record {
  within : l.last < length l.rows;
  above : (x : ℕ) → x < l.a →
      row_has l.rows x l.last ≡ true;
}
