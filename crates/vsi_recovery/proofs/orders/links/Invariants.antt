use Rattle.std.proofs.Common.{◌∷◌, []}
use Rattle.std.specs.Prelude.{All}
use Rattle.vsi_recovery.specs.Completed.{IsLatticeWith}
use Rattle.vsi_recovery.proofs.orders.links.Given as goal

abbrev pub invariant-loop-link : goal.invariant-loop-link
invariant-loop-link l = All (λ pair. IsLatticeWith l.count l.pairs 0 (pair ∷ [])) l.found.items
