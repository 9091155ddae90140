use Rattle.std.proofs.Common.{◌<◌, ◌≤◌, ◌%◌, ◌∙◌, sym, arith}
use Rattle.std.proofs.lemmas.Bool.Decides.{nat_tests}
use Rattle.vsi_documents.proofs.Digits.{within_next}
use Rattle.vsi_documents.proofs.shape.is_below.Goals as goal

pub loop-left-preserved : goal.loop-left-preserved
loop-left-preserved c =
    let more : 0 < c.loop-left.left = grind (arith, nat_tests, c.loop-left-test.true) in
    let allows : c.loop-left.inner % 2 ≤ c.loop-left.outer % 2 = grind (arith, nat_tests, c.if-inner-outer.false) in
    sym (within_next c.loop-left.left c.loop-left.inner c.loop-left.outer more allows) ∙ c.loop-left.invariant
