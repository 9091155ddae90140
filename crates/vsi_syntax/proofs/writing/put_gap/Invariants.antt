use Rattle.std.proofs.Common.{◌≡◌, ◌++◌, length}
use Rattle.vsi_syntax.specs.Gaps.{fresh, gap_text}
use Rattle.vsi_syntax.proofs.writing.put_gap.Given as goal

abbrev pub invariant-loop-rest : goal.invariant-loop-rest
invariant-loop-rest l =
    l.out.items ++ gap_text l.place l.cursor l.rest ≡ l.fn.out.items ++ gap_text l.fn.place fresh l.fn.gap

abbrev pub decreases-loop-rest : goal.decreases-loop-rest
decreases-loop-rest l = length l.rest
