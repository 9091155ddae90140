use Rattle.std.proofs.Common.{◌≡◌, drop}
use Rattle.vsi_image.specs.Fields.{globals}
use Rattle.vsi_documents.specs.Roles.{view}
use Rattle.vsi_documents.specs.Changes.{gains}
use Rattle.vsi_documents.proofs.tables.class_sees_more.Given as goal

-- The class gains one of the remaining globals exactly if it gains one of all.
abbrev pub invariant-loop-variable : goal.invariant-loop-variable
invariant-loop-variable l =
    gains (view l.side) (view l.old) l.class (globals (drop l.variable-index l.side.globals.now))
    ≡ gains (view l.side) (view l.old) l.class (globals l.side.globals.now)
