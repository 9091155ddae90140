use Rattle.std.proofs.Common.{◌≡◌, None, refl, length, subst, arith}
use Rattle.std.proofs.lemmas.List.{length-map}
use Rattle.vsi_image.specs.Fields.{global, globals}
use Rattle.vsi_lattice.specs.LatticeView.{class_named, order}
use Rattle.vsi_steady.specs.Telling.{LeadTo}
use Rattle.vsi_steady.proofs.Telling.{chain_led}
use Rattle.vsi_steady.proofs.chain.is_chain.Goals as goal

pub returns-then-lead_to : goal.returns-then-lead_to
returns-then-lead_to c = λ bad.
    let l = c.args.lattice.now in
    let image = c.args.image.now in
    let place = c.args.place in
    let steps = c.args.steps.now in
    let code = subst (λ is. LeadTo is c.len.result place steps) c.deref.ensures.value (c.if-lead_to.ensures refl) in
    let count : c.len.result ≡ length (globals image.globals.items) =
    omega (arith, image.globals.ok.0, length-map image.globals.items global) in
    let leads = subst (λ n. LeadTo image.code.items n place steps) count code in
    chain_led (class_named l) (order l) image place steps (record { source = 0; read = 0; target = None; written = 0 })
    c.if-is_empty.ensures leads (c.is_bad.ensures bad)
