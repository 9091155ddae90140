use Rattle.std.proofs.Common.{map}
use Rattle.toml.specs.Data.{as_str}
use Rattle.vsi_lattice.proofs.ShapeLemmas.{IsSoFar}
use Rattle.vsi_lattice.proofs.reader.texts.Given as goal

abbrev pub invariant-loop-value : goal.invariant-loop-value
invariant-loop-value l = IsSoFar as_str l.array (map (λ r. r.now) l.found.items) l.value-index
