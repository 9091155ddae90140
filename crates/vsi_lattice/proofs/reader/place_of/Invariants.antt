use Rattle.std.proofs.Common.{◌≡◌, ◌+◌, map, drop, option_map, string_bytes}
use Rattle.vsi_lattice.specs.NamePlaces.{place_in}
use Rattle.vsi_lattice.proofs.reader.place_of.Given as goal

abbrev pub invariant-loop-i : goal.invariant-loop-i
invariant-loop-i l =
    place_in (map string_bytes l.names) l.name ≡ option_map (λ n. n + l.i)
    (place_in (map string_bytes (drop l.i l.names)) l.name)
