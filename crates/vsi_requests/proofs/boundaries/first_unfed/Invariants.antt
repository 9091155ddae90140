use Rattle.std.proofs.Common.{◌≡◌, drop}
use Rattle.vsi_lattice.specs.NamePlaces.{texts}
use Rattle.vsi_drive.specs.Control.{control}
use Rattle.vsi_subject.specs.Feeding.{unfed}
use Rattle.vsi_requests.proofs.boundaries.first_unfed.Given as goal

-- The first fault of the remaining settings is the first of all.
abbrev pub invariant-loop-number : goal.invariant-loop-number
invariant-loop-number l =
    unfed (control l.controller) l.number (texts (drop l.number l.settings))
    ≡ unfed (control l.controller) 0 (texts l.settings)
