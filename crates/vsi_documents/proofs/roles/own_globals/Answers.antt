use Rattle.std.proofs.Common.{◌∙◌, ◌∷◌, [], ap}
use Rattle.std.proofs.lemmas.List.{map-append}
use Rattle.vsi_image.specs.Fields.{global, globals}
use Rattle.vsi_documents.proofs.Below.{more_globals}
use Rattle.vsi_documents.proofs.roles.own_globals.Goals as goal

pub loop-class-preserved : goal.loop-class-preserved
loop-class-preserved c =
    let found = c.loop-class.found.items in
    let name = c.in_ok-name.name in
    let own = c.in_ok-own.own in
    let named = c.name_of-seen.ensures in
    more_globals c.args.lattice.now (globals found) (globals c.push.new.self.items) c.loop-class.class name.items own.items
    c.loop-class.invariant (c.in_ok-name.ensures.items ∙ named) (c.in_ok-own.ensures.items ∙ named)
    (ap globals c.in_ok-push.ensures.items ∙ map-append global found ((name, own) ∷ []))
