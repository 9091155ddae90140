use Rattle.std.proofs.Common.{◌≡◌, ◌≤◌, ◌++◌, [], drop}
use Rattle.std.specs.Prelude.{slice_range}
use Rattle.vsi_lattice.specs.NamePlaces.{texts}
use Rattle.vsi_drive.specs.Boundary as spec
use Rattle.vsi_drive.proofs.boundary.names_of.Given as goal

-- The names so far, and those of the remaining bytes with the name being read, are all names.
abbrev pub invariant-loop-i : goal.invariant-loop-i
invariant-loop-i l = record {
  start : l.start ≤ l.i;
  names : texts l.names.items ++ spec.names_behind (slice_range l.text l.start l.i) (drop l.i l.text)
      ≡ spec.names_behind [] l.text;
}
