use Rattle.std.proofs.Common.{◌≡◌, length, drop}
use Rattle.vsi_lattice.specs.NamePlaces.{texts}
use Rattle.vsi_drive.specs.Reaches.{settable}
use Rattle.vsi_drive.specs.Starts.{settings_each, set_behind, start}
use Rattle.vsi_drive.proofs.boundary.set_each.Given as goal

-- Setting the remaining texts in the current words gives what setting all texts in the first words gives.
abbrev pub invariant-loop-number : goal.invariant-loop-number
invariant-loop-number l = record {
  words : length l.words ≡ length (settable l.reach).image.globals.items;
  named : length l.named ≡ length (settable l.reach).image.globals.items;
  set : set_behind (settings_each (settable l.reach) l.number (drop l.number (texts l.settings))) (start l.words l.named)
      ≡ set_behind (settings_each (settable l.reach) 0 (texts l.settings)) (start l.initial.words l.initial.named);
}
