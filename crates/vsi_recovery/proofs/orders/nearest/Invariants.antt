use Rattle.std.specs.Prelude.{All}
use Rattle.vsi_recovery.specs.Completed.{IsAboveBoth}
use Rattle.vsi_recovery.proofs.orders.nearest.Given as goal

abbrev pub invariant-loop-class : goal.invariant-loop-class
invariant-loop-class l = All (IsAboveBoth l.pairs l.a l.b) l.found.items
