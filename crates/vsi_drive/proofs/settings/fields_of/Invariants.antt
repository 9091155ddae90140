use Rattle.std.proofs.Common.{◌≡◌, ◌≤◌, ◌++◌, drop}
use Rattle.std.specs.Prelude.{slice_range}
use Rattle.vsi_lattice.specs.NamePlaces.{texts}
use Rattle.vsi_drive.specs.Fields as spec
use Rattle.vsi_drive.proofs.settings.fields_of.Given as goal

-- The fields so far, and the fields of the remaining bytes with the field being read, are all fields.
abbrev pub invariant-loop-i : goal.invariant-loop-i
invariant-loop-i l = record {
  start : l.start ≤ l.i;
  fields : texts l.fields.items ++ spec.fields_behind (slice_range l.line l.start l.i) (drop l.i l.line)
      ≡ spec.fields_of l.line;
}
