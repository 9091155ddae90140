use Rattle.vsi_lattice.proofs.ClosureLemmas.{no_pairs, no_pairs_transposed, pair_turn, transposed_step}
use Rattle.vsi_lattice.proofs.TableLemmas.{adds_to}
use Rattle.vsi_lattice.proofs.table.closed_tables.Goals as goal

pub loop-i-init : goal.loop-i-init
loop-i-init c = record {
  above_len = c.in_ok-above.ensures.len;
  below_len = c.in_ok-below.ensures.len;
  above = no_pairs _ _ c.in_ok-above.ensures.cells;
  below = no_pairs_transposed _ _ _ c.in_ok-above.ensures.cells c.in_ok-below.ensures.cells;
}

pub loop-i-preserved : goal.loop-i-preserved
loop-i-preserved c =
    let up = adds_to _ _ _ _ _ c.deref.ensures.value c.in_ok-above-2.ensures.adds in
    let down = adds_to _ _ _ _ _ c.deref-in-loop-i.ensures.value c.in_ok-below-2.ensures.adds in
    record {
      above_len = c.in_ok-above-2.ensures.len;
      below_len = c.in_ok-below-2.ensures.len;
      above = pair_turn _ _ _ _ _ c.loop-i-test.true c.requires.pairs up c.loop-i.invariant.above;
      below = transposed_step _ _ _ _ _ _ up down c.loop-i.invariant.below;
    }
