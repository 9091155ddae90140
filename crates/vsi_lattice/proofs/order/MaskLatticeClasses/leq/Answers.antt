use Rattle.std.proofs.Common.{ap, ◌∙◌, get_or, arith}
use Rattle.std.proofs.lemmas.List.{get_or_read_under}
use Rattle.vsi_lattice.proofs.JoinLemmas.{has_bit_test}
use Rattle.vsi_lattice.proofs.order.MaskLatticeClasses.leq.Goals as goal

pub returns : goal.returns
returns c =
    has_bit_test c.args.self.now.above.items c.args.a c.args.b c.index-2.result.now c.index-3.result
    (get_or_read_under c.args.self.now.above.items c.index.result c.args.self.now.above.len c.index-2.result.now 0
    c.index-2.ensures (omega arith) (omega arith)
    ∙ ap (λ i. get_or c.args.self.now.above.items i 0) c.index.ensures)
    c.index-3.ensures
