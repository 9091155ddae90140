use Rattle.std.proofs.Common.{◌≡◌, Some, None, slice_get, arith, refl, sym, ap, ◌∙◌}
use Rattle.std.proofs.lemmas.Option.{slice_get-get_or}
use Rattle.vsi_infer.proofs.WorklistLemmas.{raise_choice, raise_justified, raise_waits, raise_nearer}
use Rattle.vsi_infer.proofs.OrderLemmas.{order_laws}
use Rattle.vsi_infer.proofs.inference.spread.Goals as goal

pub loop-to-preserved : goal.loop-to-preserved
loop-to-preserved g c =
    let laws = order_laws _ (g.met.C.Classes.laws c.args.lattice.now) in
    let raised = c.if-not-raise_one.ensures.raised refl in
    let inv = c.loop-to.invariant in
    let none : slice_get c.args.declared.now c.loop-to.to ≡ Some None =
    slice_get-get_or c.args.declared.now c.loop-to.to _ c.loop-to-test.true ∙ ap Some c.in_default.is in
    let flow = sym c.has.ensures ∙ c.if-not-has.false in
    let nearer = raise_nearer _ _ _ _ laws _ _ c.requires.program _ _ _ _ flow inv.choice raised in
    record {
      choice = raise_choice _ _ _ _ laws _ _ c.requires.program _ _ _ _ none flow inv.choice raised;
      justified = raise_justified _ _ _ _ laws _ _ c.requires.program _ _ _ _ flow inv.choice raised inv.justified;
      waits = raise_waits _ _ _ _ laws _ _ c.requires.program _ _ _ _ _ flow inv.choice raised _
          c.in_ok-push.ensures.items inv.waits;
      smaller = omega (arith, nearer, inv.smaller, c.in_ok-push.ensures.len);
    }
