use Rattle.std.proofs.Common.{◌≡◌, drop}
use Rattle.vsi_lattice.specs.NamePlaces.{texts}
use Rattle.vsi_drive.specs.BoundaryFaults.{names_fault}
use Rattle.vsi_drive.specs.Control.{control}
use Rattle.vsi_drive.proofs.controller.Controller.names_fault.Given as goal

-- The first fault of the remaining names is the first of all.
abbrev pub invariant-loop-number : goal.invariant-loop-number
invariant-loop-number l =
    names_fault (control l.self) l.role l.number (texts (drop l.number l.names))
    ≡ names_fault (control l.self) l.role 0 (texts l.names)
