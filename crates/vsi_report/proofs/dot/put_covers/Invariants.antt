use Rattle.vsi_lattice.specs.LatticeView.{order}
use Rattle.vsi_report.specs.Covering.{HasJust, IsRowSoFar}
use Rattle.vsi_report.proofs.dot.put_covers.Given as goal

-- The list has the pairs that come before this one, if it began so.
abbrev pub invariant-loop-high : goal.invariant-loop-high
invariant-loop-high l =
    HasJust (IsRowSoFar (order l.lattice) l.low 0) l.initial.pairs.items
    → HasJust (IsRowSoFar (order l.lattice) l.low l.high) l.pairs.items
