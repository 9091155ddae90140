use Rattle.std.proofs.Common.{map}
use Rattle.vsi_lattice.specs.Shape.{pair_of}
use Rattle.vsi_lattice.proofs.ShapeLemmas.{IsSoFar}
use Rattle.vsi_lattice.proofs.reader.pairs.Given as goal

abbrev pub invariant-loop-value : goal.invariant-loop-value
invariant-loop-value l = IsSoFar pair_of l.array (map (λ p. (p.0.now, p.1.now)) l.found.items) l.value-index
