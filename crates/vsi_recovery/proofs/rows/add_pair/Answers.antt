use Rattle.std.proofs.Common.{arith}
use Rattle.vsi_lattice.proofs.RowLemmas.{row_has-widened, map_turn, map_done}
use Rattle.vsi_recovery.proofs.rows.add_pair.Goals as goal

pub loop-row-preserved : goal.loop-row-preserved
loop-row-preserved c = map_turn _ _ _ _ _ (omega arith) (omega arith) c.loop-row.invariant c.widen.ensures

pub returns : goal.returns
returns c =
    row_has-widened _ _ _ _ (map_done _ c.args.rows.now _ c.loop-row.row-index (omega arith) c.loop-row.invariant)
