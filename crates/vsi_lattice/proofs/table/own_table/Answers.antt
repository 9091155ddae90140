use Rattle.std.proofs.Common.{arith, ◌&&◌, ◌==◌, nat_lt}
use Rattle.vsi_lattice.proofs.TableLemmas.{written, own_outside, own_past}
use Rattle.vsi_lattice.proofs.table.own_table.Goals as goal

pub returns-clause-cells : goal.returns-clause-cells
returns-clause-cells c =
    written (λ a b. nat_lt a c.args.count && (a == b)) c.loop-i.table.items (omega arith)
    (λ k h. c.loop-i.invariant.each k (omega arith))
    (λ a b h. own_past c.args.count a b c.requires h) (λ a b h. own_outside c.args.count a b c.requires h)
