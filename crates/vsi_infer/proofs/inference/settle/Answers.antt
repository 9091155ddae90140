use Rattle.vsi_infer.proofs.WorklistLemmas.{pop_waits, last_within}
use Rattle.vsi_infer.proofs.OrderLemmas.{order_laws}
use Rattle.vsi_infer.proofs.inference.settle.Goals as goal

pub spread-requires-clause-waits : goal.spread-requires-clause-waits
spread-requires-clause-waits g c =
    let inv = c.loop-from.invariant in
    pop_waits _ _ _ _ (order_laws _ (g.met.C.Classes.laws c.args.lattice.now)) _ _ c.requires.program _ _ _
    inv.waits.0 _ c.in-Some.ensures.items inv.waits.1

pub spread-requires-clause-from : goal.spread-requires-clause-from
spread-requires-clause-from g c =
    let inv = c.loop-from.invariant in
    last_within _ _ _ _ (order_laws _ (g.met.C.Classes.laws c.args.lattice.now)) _ _ c.requires.program
    c.loop-from.choice _ _ inv.waits.0 _ c.in-Some.ensures.items inv.waits.1
