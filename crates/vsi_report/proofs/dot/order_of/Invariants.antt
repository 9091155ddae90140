use Rattle.std.proofs.Common.{◌≡◌, take}
use Rattle.vsi_lattice.specs.LatticeView.{names, order}
use Rattle.vsi_report.specs.Covering.{HasJust, IsRowSoFar}
use Rattle.vsi_report.specs.Graph.{texts}
use Rattle.vsi_report.proofs.dot.order_of.Given as goal

-- The list has the names of the numbers so far.
abbrev pub invariant-loop-number : goal.invariant-loop-number
invariant-loop-number l = texts l.names.items ≡ take l.number (names l.lattice)

-- The pairs are those of the classes so far.
abbrev pub invariant-loop-low : goal.invariant-loop-low
invariant-loop-low l = HasJust (IsRowSoFar (order l.lattice) l.low 0) l.covers.items
