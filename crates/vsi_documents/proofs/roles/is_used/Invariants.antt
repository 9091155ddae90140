use Rattle.std.proofs.Common.{◌≡◌, drop}
use Rattle.vsi_image.specs.Fields.{globals}
use Rattle.vsi_documents.specs.Rows.{is_used}
use Rattle.vsi_documents.proofs.roles.is_used.Given as goal

-- The class is used by the remaining globals exactly if it is used by all.
abbrev pub invariant-loop-variable : goal.invariant-loop-variable
invariant-loop-variable l =
    is_used (globals (drop l.variable-index l.variables)) l.class ≡ is_used (globals l.variables) l.class
