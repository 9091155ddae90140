use Rattle.std.proofs.Common.{◌≡◌, ◌++◌, subst}
use Rattle.vsi_documents.specs.declared.roles.Role.TheVariants.{Sees}
use Rattle.vsi_documents.specs.Roles.{view}
use Rattle.vsi_documents.specs.Rows.{role_row, seen_row}
use Rattle.vsi_documents.proofs.Below.{more_below}
use Rattle.vsi_documents.proofs.roles.put_seen.Goals as goal

pub loop-class-preserved : goal.loop-class-preserved
loop-class-preserved c =
    more_below c.args.text.now.items c.loop-class.text.items c.put_row.new.text.items
    (seen_row (view c.args.side.now)) c.loop-class.class c.loop-class.invariant
    (subst
    (λ name. c.put_row.new.text.items ≡ c.loop-class.text.items ++ role_row Sees (view c.args.side.now) name)
    c.name_of.ensures c.in_ok-put_row.ensures)
