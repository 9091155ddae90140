use Rattle.std.proofs.Common.{◌≡◌, ◌++◌, drop}
use Rattle.vsi_image.specs.Fields.{globals}
use Rattle.vsi_documents.specs.Roles.{view}
use Rattle.vsi_documents.specs.Rows.{each_global, role_part}
use Rattle.vsi_documents.proofs.roles.put_row.Given as goal

-- The text so far and the names among the remaining globals are all names.
abbrev pub invariant-loop-variable : goal.invariant-loop-variable
invariant-loop-variable l =
    l.text.items ++ each_global (role_part l.role (view l.side) l.class)
    (globals (drop l.variable-index l.side.globals.now))
    ≡ l.initial.text.items ++ each_global (role_part l.role (view l.side) l.class) (globals l.side.globals.now)
