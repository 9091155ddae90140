use Rattle.std.proofs.Common.{arith, ◌&&◌, ◌||◌}
use Rattle.vsi_lattice.specs.Tables.{table_has}
use Rattle.vsi_lattice.proofs.TableLemmas.{written, has_past_row, has_past_column, pair_outside, pair_past}
use Rattle.vsi_lattice.proofs.table.with_pair.Goals as goal

pub returns-clause-adds : goal.returns-clause-adds
returns-clause-adds c =
    let t = c.args.table.now in
    written (λ a b. table_has t a b || (table_has t a c.args.low && table_has t c.args.high b)) c.loop-i.next.items
    (omega arith)
    (λ k h. c.loop-i.invariant.each k (omega arith))
    (λ a b h. pair_past _ _ _ (has_past_row t a b c.requires.len h) (has_past_row t a c.args.low c.requires.len h))
    (λ a b h. pair_outside _ _ _ (has_past_column t a b h) (has_past_column t c.args.high b h))
