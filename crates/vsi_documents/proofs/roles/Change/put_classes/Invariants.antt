use Rattle.std.proofs.Common.{◌≡◌, ◌++◌}
use Rattle.vsi_documents.specs.Roles.{view}
use Rattle.vsi_documents.specs.Rows.{each_below}
use Rattle.vsi_documents.specs.Changes.{numbered_lines}
use Rattle.vsi_documents.proofs.roles.Change.put_classes.Given as goal

-- The text has the lines of the classes so far.
abbrev pub invariant-loop-class : goal.invariant-loop-class
invariant-loop-class l =
    l.text.items ≡ l.initial.text.items ++ each_below (numbered_lines l.self.adverb.now (view l.self.side.now) (view l.self.other.now)) l.class
