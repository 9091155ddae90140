use Rattle.vsi_lattice.proofs.OrderLemmas.{mask_meet}
use Rattle.vsi_lattice.proofs.order.MaskLatticeClasses.meet.Goals as goal

pub returns : goal.returns
returns c =
    let s = c.args.self.now in
    mask_meet s.above.items s.below.items s.rows _ _ _ _ _ c.in-Some.c c.at.result c.deref.ensures.value
    c.index.ensures c.index-2.ensures c.at.ensures c.in-Some.ensures.some.0 c.in-Some.ensures.some.1
