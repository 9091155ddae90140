use Rattle.std.proofs.Common.{◌≡◌, ◌++◌, subst}
use Rattle.vsi_documents.specs.declared.roles.Role.TheVariants.{Sees}
use Rattle.vsi_documents.specs.Roles.{view}
use Rattle.vsi_documents.specs.Changes.{role_lines, numbered_seen}
use Rattle.vsi_documents.proofs.Below.{more_below}
use Rattle.vsi_documents.proofs.roles.Change.put_seen.Goals as goal

pub loop-class-preserved : goal.loop-class-preserved
loop-class-preserved c =
    let one = view c.args.self.now.side.now in
    let other = view c.args.self.now.other.now in
    more_below c.args.text.now.items c.loop-class.text.items c.put_role.new.text.items
    (numbered_seen c.args.self.now.adverb.now one other) c.loop-class.class c.loop-class.invariant
    (subst
    (λ name. c.put_role.new.text.items ≡ c.loop-class.text.items ++ role_lines Sees c.args.self.now.adverb.now one other name)
    c.name_of.ensures c.in_ok-put_role.ensures)
