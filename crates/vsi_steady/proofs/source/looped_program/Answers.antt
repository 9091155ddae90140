use Rattle.std.proofs.Common.{◌≡◌, sym, ap, ◌∙◌, subst}
use Rattle.vsi_scope.specs.Program.{IsResolved, resolved_of}
use Rattle.vsi_scope.specs.View.{sequence}
use Rattle.vsi_steady.specs.Looped.{looped}
use Rattle.vsi_steady.proofs.Watching.{looped_resolved, looped_rebuilt}
use Rattle.vsi_steady.proofs.source.looped_program.Goals as goal

pub rebuilt-requires : goal.rebuilt-requires
rebuilt-requires c =
    let p = c.args.program.now in
    let entries : c.in_ok-letvars.letvars.items ≡ p.letvars =
    c.in_ok-letvars.ensures.items_if_clones_equal (λ x y h. h) ∙ c.letvars.ensures in
    subst (λ ls. IsResolved (resolved_of p.globals ls c.in_ok-body.body.items)) (sym entries)
    (looped_resolved p c.in_ok-body.body.items c.body.ensures.resolved
    (c.in_ok-body.ensures ∙ ap (λ l. looped (sequence l)) c.body.ensures.value))

pub returns-in-Ok : goal.returns-in-Ok
returns-in-Ok c =
    let p = c.args.program.now in
    let entries : c.in_ok-letvars.letvars.items ≡ p.letvars =
    c.in_ok-letvars.ensures.items_if_clones_equal (λ x y h. h) ∙ c.letvars.ensures in
    looped_rebuilt p c.in-Ok.looped c.in_ok-letvars.letvars.items c.in_ok-body.body.items c.in-Ok.ensures.rebuilt
    entries (c.in_ok-body.ensures ∙ ap (λ l. looped (sequence l)) c.body.ensures.value)
