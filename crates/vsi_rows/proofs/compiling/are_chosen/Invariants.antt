use Rattle.std.proofs.Common.{take}
use Rattle.std.specs.List.{All}
use Rattle.vsi_lattice.specs.LatticeView.{order}
use Rattle.vsi_lattice.specs.Order.{IsClass}
use Rattle.vsi_rows.proofs.compiling.are_chosen.Given as goal

abbrev pub invariant-loop-c : goal.invariant-loop-c
invariant-loop-c l = All (IsClass (order l.lattice)) (take l.c-index l.choice)
