use Rattle.std.proofs.Common.{◌≡◌, ◌++◌, drop}
use Rattle.vsi_image.specs.Fields.{globals}
use Rattle.vsi_documents.specs.Roles.{view}
use Rattle.vsi_documents.specs.Rows.{each_global}
use Rattle.vsi_documents.specs.Changes.{role_line}
use Rattle.vsi_documents.proofs.roles.Change.put_role.Given as goal

-- The text so far and the lines of the remaining globals are all lines.
abbrev pub invariant-loop-variable : goal.invariant-loop-variable
invariant-loop-variable l =
    l.text.items ++ each_global (role_line l.role l.self.adverb.now (view l.self.side.now) (view l.self.other.now) l.class)
    (globals (drop l.variable-index l.self.side.now.globals.now))
    ≡ l.initial.text.items ++ each_global (role_line l.role l.self.adverb.now (view l.self.side.now) (view l.self.other.now) l.class)
    (globals l.self.side.now.globals.now)
