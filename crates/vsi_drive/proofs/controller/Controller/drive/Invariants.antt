use Rattle.std.proofs.Common.{◌≡◌, ◌++◌, drop, take, length}
use Rattle.vsi_lattice.specs.NamePlaces.{texts}
use Rattle.vsi_drive.specs.Control.{control}
use Rattle.vsi_drive.specs.Cycles as spec
use Rattle.vsi_drive.proofs.controller.Controller.drive.Given as goal

-- The output so far and the output of the remaining lines are the whole output; the current store is the store after
-- the lines so far, and the remaining lines lead from it to the last store.
abbrev pub invariant-loop-line : goal.invariant-loop-line
invariant-loop-line l = record {
  words : length l.store ≡ length (control l.self).image.globals.items;
  text : l.text.items ++ spec.text_of (control l.self) l.store (texts (drop l.line-index l.lines))
      ≡ spec.text_of (control l.self) l.initial.store (texts l.lines);
  store : spec.store_behind (control l.self) l.store (texts (drop l.line-index l.lines))
      ≡ spec.store_behind (control l.self) l.initial.store (texts l.lines);
  behind : l.store ≡ spec.store_behind (control l.self) l.initial.store (texts (take l.line-index l.lines));
}
