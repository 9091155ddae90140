use Rattle.std.proofs.Common.{◌≡◌, ◌+◌, ◌*◌, length}
use Rattle.vsi_lattice.specs.NamePlaces.{texts}
use Rattle.vsi_drive.specs.Control.{control}
use Rattle.vsi_drive.specs.Fields.{fields_of}
use Rattle.vsi_drive.specs.Settings as spec
use Rattle.vsi_drive.proofs.settings.words_set.Given as goal

-- Setting the remaining fields in the current words gives what setting all fields in the store gives.
abbrev pub invariant-loop-rest : goal.invariant-loop-rest
invariant-loop-rest l = record {
  words : length l.words.items ≡ length l.store;
  count : 3 * l.number + length l.rest ≡ length l.initial.rest;
  written : spec.written (spec.settings_from (spec.at_or_below (control l.controller)) l.number (texts l.rest))
      l.words.items
      ≡ spec.written (spec.settings_from (spec.at_or_below (control l.controller)) 0 (fields_of l.line)) l.store;
}

abbrev pub decreases-loop-rest : goal.decreases-loop-rest
decreases-loop-rest l = length l.rest
