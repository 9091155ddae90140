use Rattle.std.proofs.Common.{◌≡◌, drop}
use Rattle.vsi_image.specs.Fields.{globals}
use Rattle.vsi_drive.specs.BoundaryFaults.{class_of}
use Rattle.vsi_drive.proofs.controller.Controller.class_of.Given as goal

-- The class of the name among the remaining globals is the one among all.
abbrev pub invariant-loop-variable : goal.invariant-loop-variable
invariant-loop-variable l =
    class_of (globals (drop l.variable-index l.variables)) l.name ≡ class_of (globals l.variables) l.name
