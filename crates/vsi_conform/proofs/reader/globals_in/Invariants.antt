use Rattle.vsi_lattice.specs.Shape.{pair_of}
use Rattle.vsi_lattice.proofs.ShapeLemmas.{IsSoFar}
use Rattle.vsi_image.specs.Fields.{globals}
use Rattle.vsi_conform.proofs.reader.globals_in.Given as goal

-- The globals found so far and those of the rest are all globals.
abbrev pub invariant-loop-value : goal.invariant-loop-value
invariant-loop-value l = IsSoFar pair_of l.array (globals l.found.items) l.value-index
