use Rattle.std.proofs.Common.{◌≡◌, ◌++◌}
use Rattle.vsi_documents.specs.Roles.{view}
use Rattle.vsi_documents.specs.Rows.{each_below, numbered_rows}
use Rattle.vsi_documents.proofs.roles.visible_table.Given as goal

-- The text has the rows of the classes so far.
abbrev pub invariant-loop-class : goal.invariant-loop-class
invariant-loop-class l = l.text.items ≡ l.initial.text.items ++ each_below (numbered_rows (view l.side)) l.class
