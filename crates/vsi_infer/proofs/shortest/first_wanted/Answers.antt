use Rattle.std.proofs.Common.{◌∙◌, refl, sym, ap, subst, true, length, get_or, arith}
use Rattle.std.specs.List.{Contains}
use Rattle.std.proofs.lemmas.List.Elements.{Contains-get_or}
use Rattle.vsi_types.specs.Security.{program, steps_of}
use Rattle.vsi_infer.proofs.KeptLemmas.{kept_there}
use Rattle.vsi_infer.proofs.shortest.first_wanted.Goals as goal

pub bounds-steps-0 : goal.bounds-steps-0
bounds-steps-0 g c =
    let k = c.in_ok-kept.ensures.some refl c.requires.some.0 c.requires.some.1 c.requires.some.2 in
    let l = ap length c.as_slice-steps.ensures.value in
    omega (arith, k, l)

pub returns : goal.returns
returns g c =
    let items = c.in_ok-kept.kept.steps.items in
    let x = c.index-steps-0.result in
    let k = c.in_ok-kept.ensures.some refl c.requires.some.0 c.requires.some.1 c.requires.some.2 in
    let is = c.index-steps-0.is ∙ ap (λ l. get_or l 0 x) c.as_slice-steps.ensures.value in
    let at = kept_there (g.W.Wanted.wants c.args.wanted.now) (steps_of c.args.profile (program c.args.program.now))
    items true c.in_ok-kept.ensures x
    (subst (Contains items) (sym is) (Contains-get_or items 0 x (omega (arith, k)))) in
    record { there = at.0; wanted = at.1 }
