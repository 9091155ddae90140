use Rattle.vsi_lattice.specs.Pairs.{ArePairsBelow}
use Rattle.vsi_rows.proofs.lattices.pairs_below.Given as goal

abbrev pub invariant-loop-pair : goal.invariant-loop-pair
invariant-loop-pair l = ArePairsBelow l.count l.pairs.items
