use Rattle.std.proofs.Common.{◌≡◌, ◌≤◌, ◌++◌, length}
use Rattle.vsi_syntax.specs.Cut.{pieces}
use Rattle.vsi_syntax.specs.Writing as spec
use Rattle.vsi_syntax.proofs.writing.laid.Given as goal

abbrev pub invariant-loop-rest : goal.invariant-loop-rest
invariant-loop-rest l = record {
  made : l.out.items ++ spec.laid_from l.at l.before l.depth l.text (pieces l.rest) ≡ spec.laid l.text (pieces l.tokens);
  within : l.depth ≤ 200;
}

abbrev pub decreases-loop-rest : goal.decreases-loop-rest
decreases-loop-rest l = length l.rest
