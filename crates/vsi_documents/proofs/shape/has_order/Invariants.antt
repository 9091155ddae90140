use Rattle.std.proofs.Common.{◌≡◌, ℕ, ◌<◌}
use Rattle.vsi_lattice.specs.LatticeView.{order}
use Rattle.vsi_documents.specs.Shapes.{AgreesAbove, is_below}
use Rattle.vsi_documents.proofs.shape.has_order.Given as goal

abbrev pub invariant-loop-low : goal.invariant-loop-low
invariant-loop-low l = (k : ℕ) → k < l.low → AgreesAbove l.shape l.names (order l.lattice) k

abbrev pub invariant-loop-high : goal.invariant-loop-high
invariant-loop-high l = (k : ℕ) → k < l.high → (order l.lattice).leq l.low k ≡ is_below l.shape l.names l.low k
