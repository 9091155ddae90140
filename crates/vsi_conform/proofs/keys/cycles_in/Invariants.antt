use Rattle.std.proofs.Common.{map}
use Rattle.std.specs.List.{All}
use Rattle.vsi_image.specs.Fields.{globals}
use Rattle.vsi_lattice.proofs.ShapeLemmas.{IsSoFar}
use Rattle.vsi_conform.specs.Reading.{BoundsGlobals, cycle, cycle_of}
use Rattle.vsi_conform.proofs.keys.cycles_in.Given as goal

-- The boundaries found so far and those of the rest are all boundaries; those found name only globals of the interface.
abbrev pub invariant-loop-i : goal.invariant-loop-i
invariant-loop-i l = record {
  so_far : IsSoFar cycle_of l.array (map cycle l.cycles.items) l.i;
  named : All (BoundsGlobals (globals l.globals)) (map cycle l.cycles.items);
}
