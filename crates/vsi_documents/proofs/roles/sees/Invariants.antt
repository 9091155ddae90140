use Rattle.std.proofs.Common.{◌≡◌, drop}
use Rattle.vsi_image.specs.Fields.{globals}
use Rattle.vsi_conform.specs.Asked.{class_of}
use Rattle.vsi_documents.proofs.roles.sees.Given as goal

-- The remaining globals give the name the class that all globals give it.
abbrev pub invariant-loop-variable : goal.invariant-loop-variable
invariant-loop-variable l =
    class_of (globals (drop l.variable-index l.side.globals.now)) l.name ≡ class_of (globals l.side.globals.now) l.name
