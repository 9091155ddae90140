use Rattle.std.proofs.Common.{◌≡◌, ◌++◌, subst}
use Rattle.vsi_documents.specs.Roles.{view}
use Rattle.vsi_documents.specs.Changes.{class_lines, numbered_lines}
use Rattle.vsi_documents.proofs.Below.{more_below}
use Rattle.vsi_documents.proofs.roles.Change.put_classes.Goals as goal

pub loop-class-preserved : goal.loop-class-preserved
loop-class-preserved c =
    let one = view c.args.self.now.side.now in
    let other = view c.args.self.now.other.now in
    more_below c.args.text.now.items c.loop-class.text.items c.put_class.new.text.items
    (numbered_lines c.args.self.now.adverb.now one other) c.loop-class.class c.loop-class.invariant
    (subst
    (λ name. c.put_class.new.text.items ≡ c.loop-class.text.items ++ class_lines c.args.self.now.adverb.now one other name)
    c.name_of.ensures c.in_ok-put_class.ensures)
