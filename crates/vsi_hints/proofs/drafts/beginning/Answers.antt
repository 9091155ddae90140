use Rattle.std.proofs.Common.{arith, sym}
use Rattle.std.proofs.lemmas.List.{length-take-le, take_all}
use Rattle.vsi_hints.proofs.drafts.beginning.Goals as goal

pub slice_bounds-result-end : goal.slice_bounds-result-end
slice_bounds-result-end c = sym (length-take-le 120 c.args.text.now (omega (arith, c.if-text-gt-LONGEST.true)))

pub returns-else-text-gt-LONGEST : goal.returns-else-text-gt-LONGEST
returns-else-text-gt-LONGEST c = sym (take_all 120 c.args.text.now (omega (arith, c.if-text-gt-LONGEST.false)))
