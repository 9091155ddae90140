use Rattle.std.proofs.Common.{ℕ, ◌<◌, map}
use Rattle.vsi_lattice.specs.NamePlaces.{IsBadName}
use Rattle.vsi_lattice.proofs.reader.first_bad.Given as goal

abbrev pub invariant-loop-i : goal.invariant-loop-i
invariant-loop-i l = (k : ℕ) → k < l.i → ¬ (IsBadName (map (λ r. r.now) l.names) k)
