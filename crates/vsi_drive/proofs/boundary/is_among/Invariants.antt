use Rattle.std.proofs.Common.{◌≡◌, length}
use Rattle.vsi_lattice.specs.NamePlaces.{texts}
use Rattle.vsi_drive.specs.Boundary.{is_among}
use Rattle.vsi_drive.proofs.boundary.is_among.Given as goal

-- The name is among the remaining ones exactly if it is among all.
abbrev pub invariant-loop-rest : goal.invariant-loop-rest
invariant-loop-rest l = is_among (texts l.rest) l.name ≡ is_among (texts l.names) l.name

abbrev pub decreases-loop-rest : goal.decreases-loop-rest
decreases-loop-rest l = length l.rest
