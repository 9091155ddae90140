use Rattle.std.proofs.Common.{◌≡◌, ℕ, ◌<◌, true, length}
use Rattle.vsi_lattice.specs.Order.{Below}
use Rattle.vsi_lattice.specs.Rows.{row_has, row_lattice}
use Rattle.vsi_recovery.proofs.rows.keeps_rows.Given as goal

abbrev pub invariant-loop-low : goal.invariant-loop-low
invariant-loop-low l =
    (k high : ℕ) → k < l.low → high < length l.rows →
    Below (row_lattice l.lattice.above.items l.lattice.bottom l.lattice.top) k high → row_has l.rows k high ≡ true

abbrev pub invariant-loop-high : goal.invariant-loop-high
invariant-loop-high l =
    (k : ℕ) → k < l.high → Below (row_lattice l.lattice.above.items l.lattice.bottom l.lattice.top) l.low k →
    row_has l.rows l.low k ≡ true
