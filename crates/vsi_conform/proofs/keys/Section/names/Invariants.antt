use Rattle.std.specs.List.{All}
use Rattle.toml.specs.Data.{as_str}
use Rattle.vsi_image.specs.Fields.{globals}
use Rattle.vsi_lattice.proofs.ShapeLemmas.{IsSoFar}
use Rattle.vsi_conform.specs.Reading.{IsKnown, bytes_of}
use Rattle.vsi_conform.proofs.keys.Section.names.Given as goal

-- The names found so far and those of the rest are all names; those found are names of globals.
abbrev pub invariant-loop-value : goal.invariant-loop-value
invariant-loop-value l = record {
  so_far : IsSoFar as_str l.array (bytes_of l.names.items) l.value-index;
  known : All (IsKnown (globals l.self.globals.now)) (bytes_of l.names.items);
}
