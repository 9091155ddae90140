use Rattle.std.proofs.Common.{map}
use Rattle.std.specs.List.{All}
use Rattle.vsi_image.specs.Fields.{globals}
use Rattle.vsi_lattice.proofs.ShapeLemmas.{IsSoFar}
use Rattle.vsi_conform.specs.Reading.{NamesGlobals, run, run_of}
use Rattle.vsi_conform.proofs.keys.trials_in.Given as goal

-- The runs found so far and those of the rest are all runs; the runs found name only globals of the interface.
abbrev pub invariant-loop-i : goal.invariant-loop-i
invariant-loop-i l = record {
  so_far : IsSoFar run_of l.array (map run l.trials.items) l.i;
  named : All (NamesGlobals (globals l.globals)) (map run l.trials.items);
}
