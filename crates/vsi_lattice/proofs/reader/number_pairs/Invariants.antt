use Rattle.std.proofs.Common.{◌≡◌, ℕ, ◌<◌, map, take, length, string_bytes}
use Rattle.vsi_lattice.specs.NamePlaces.{IsUnknownAt, number_of}
use Rattle.vsi_lattice.specs.Pairs.{ArePairsBelow}
use Rattle.vsi_lattice.proofs.reader.number_pairs.Given as goal

abbrev pub invariant-loop-i : goal.invariant-loop-i
invariant-loop-i l = record {
  numbers : l.numbers.items ≡ map (number_of (map string_bytes l.names))
      (take l.i (map (λ p. (p.0.now, p.1.now)) l.pairs));
  below : ArePairsBelow (length l.names) l.numbers.items;
  known : (k : ℕ) → k < l.i → ¬ (IsUnknownAt (map string_bytes l.names) (map (λ p. (p.0.now, p.1.now)) l.pairs) k);
}
