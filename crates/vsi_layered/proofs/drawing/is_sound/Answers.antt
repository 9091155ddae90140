use Rattle.std.proofs.Common.{rules, refl, subst, arith}
use Rattle.vsi_layered.specs.Drawing.{AllApart, AllSized, AllWithin, AllInside, frame}
use Rattle.vsi_layered.proofs.drawing.is_sound.Goals as goal

pub returns : goal.returns
returns c =
    let nodes = c.args.nodes.now in
    let drawing = c.args.drawing.now in
    let whole = frame drawing.wide drawing.high in
    λ t. record {
      count = first_of (search rules, grind arith);
      sized = subst (λ l. AllSized nodes l) c.deref.ensures.value (c.if-not-are_all_placed.ensures.sized refl);
      inside = subst (λ l. AllInside whole l) c.deref-3.ensures.value (c.if-not-are_laid_out.ensures.inside refl);
      framed = subst (λ l. AllInside whole l) c.deref-4.ensures.value (c.are_laid_out-2.ensures.inside t);
      within = subst (λ l. AllWithin nodes drawing.places.items l) c.deref-2.ensures.value
          (subst (λ l. AllWithin nodes l c.deref-2.result.now) c.deref.ensures.value
          (c.if-not-are_all_placed.ensures.within refl));
      apart = subst (λ l. AllApart l) c.deref-3.ensures.value (c.if-not-are_laid_out.ensures.apart refl);
      groups = subst (λ l. AllApart l) c.deref-4.ensures.value (c.are_laid_out-2.ensures.apart t);
    }
