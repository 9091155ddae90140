use Rattle.std.proofs.Common.{◌≡◌}
use Rattle.vsi_documents.specs.Roles.{view}
use Rattle.vsi_documents.specs.Changes.{some_gains}
use Rattle.vsi_documents.proofs.tables.sees_more.Given as goal

-- One of the classes so far sees more, or none.
abbrev pub invariant-loop-class : goal.invariant-loop-class
invariant-loop-class l = l.is_more ≡ some_gains (view l.side) (view l.old) l.class
