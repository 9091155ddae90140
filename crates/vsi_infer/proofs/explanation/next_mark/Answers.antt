use Rattle.std.proofs.Common.{arith, eq-eqb, ne_eqb}
use Rattle.vsi_infer.proofs.LineLemmas.{mark_break, mark_on}
use Rattle.vsi_infer.proofs.explanation.next_mark.Goals as goal

pub returns-then-text-mark-eq10-clause-mark : goal.returns-then-text-mark-eq10-clause-mark
returns-then-text-mark-eq10-clause-mark c =
    mark_break c.args.text.now c.args.mark (omega (arith, c.requires.more)) (eq-eqb _ 10 c.if-text-mark-eq10.true)
    c.requires.mark

pub returns-else-text-mark-eq10-clause-mark : goal.returns-else-text-mark-eq10-clause-mark
returns-else-text-mark-eq10-clause-mark c =
    mark_on c.args.text.now c.args.mark (omega (arith, c.requires.more)) (ne_eqb _ 10 c.if-text-mark-eq10.false)
    c.requires.mark
