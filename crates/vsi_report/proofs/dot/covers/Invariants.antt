use Rattle.std.proofs.Common.{◌≡◌, ℕ, ◌<◌}
use Rattle.std.specs.Prelude.{◌⊎◌}
use Rattle.vsi_lattice.specs.LatticeView.{order}
use Rattle.vsi_lattice.specs.Order.{Below}
use Rattle.vsi_report.proofs.dot.covers.Given as goal

abbrev pub invariant-loop-middle : goal.invariant-loop-middle
invariant-loop-middle l =
    (k : ℕ) → k < l.middle → Below (order l.lattice) l.low k → Below (order l.lattice) k l.high
    → (k ≡ l.low) ⊎ (k ≡ l.high)
