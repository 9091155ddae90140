use Rattle.std.proofs.Common.{◌≡◌, ◌∙◌, false, subst, sym}
use Rattle.vsi_image.specs.Fields.{globals}
use Rattle.vsi_documents.specs.Rows.{is_used}
use Rattle.vsi_documents.proofs.Below.{more_warned}
use Rattle.vsi_documents.proofs.roles.unused_warnings.Goals as goal

pub loop-class-preserved : goal.loop-class-preserved
loop-class-preserved c =
    let name = c.name_of-name.result.now in
    more_warned c.args.lattice.now (globals c.args.interface.now.globals.items) c.loop-class.class name
    c.loop-class.text.items c.put_parts.new.text.items c.name_of-name.ensures
    (subst (λ variables. is_used (globals variables) name ≡ false) c.deref.ensures.value
    (sym c.is_used.ensures ∙ c.if-is_used.false))
    c.loop-class.invariant c.in_ok-put_parts.ensures
