use Rattle.std.proofs.Common.{◌≡◌, ℕ, ◌<◌, map, take, string_bytes}
use Rattle.vsi_lattice.specs.NamePlaces.{StandsEarlier}
use Rattle.vsi_lattice.proofs.reader.collect_names.Given as goal

abbrev pub invariant-loop-i : goal.invariant-loop-i
invariant-loop-i l = record {
  names : map string_bytes l.list.items ≡ take l.i (map (λ r. r.now) l.names);
  fresh : (k : ℕ) → k < l.i → ¬ (StandsEarlier (map (λ r. r.now) l.names) k);
}
