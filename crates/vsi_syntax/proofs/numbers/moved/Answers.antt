use Rattle.std.proofs.Common.{◌<◌, length, arith, eq-eqb, ne_eqb}
use Rattle.vsi_syntax.proofs.Places.{stands_break, stands_on}
use Rattle.vsi_syntax.proofs.numbers.moved.Goals as goal
use Rattle.vsi_syntax.proofs.numbers.moved.Goals.{then-text-i-eq10, else-text-i-eq10}

pub loop-i-preserved : goal.loop-i-preserved
loop-i-preserved c =
    let text = c.args.text.now in
    let lt : c.loop-i.i < length text = omega (arith, c.loop-i-test.true, c.min-end.ensures) in
    record {
      stands = elim c.if-text-i-eq10.branch [
        | then-text-i-eq10 w ↦ rw (w.line-is, w.column-is)
            (stands_break text c.loop-i.i c.loop-i.line c.loop-i.column lt (eq-eqb _ 10 w.if-text-i-eq10.true)
            c.loop-i.invariant.stands)
        | else-text-i-eq10 w ↦ rw (w.line-is, w.column-is)
            (stands_on text c.loop-i.i c.loop-i.line c.loop-i.column lt (ne_eqb _ 10 w.if-text-i-eq10.false)
            c.loop-i.invariant.stands)
      ];
      within = omega (arith, c.loop-i-test.true);
    }
