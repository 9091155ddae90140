use Rattle.std.specs.Prelude.{All}
use Rattle.vsi_recovery.specs.Completed.{IsLatticeWith}
use Rattle.vsi_recovery.proofs.orders.placements.Given as goal

abbrev pub invariant-loop-rank : goal.invariant-loop-rank
invariant-loop-rank l = All (λ placed. IsLatticeWith l.count l.pairs 0 placed.pairs.items) l.found.items
