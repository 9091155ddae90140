use Rattle.std.proofs.Common.{◌≡◌}
use Rattle.vsi_infer.specs.FirstSteps.{kept_of}
use Rattle.vsi_infer.proofs.looking.enter.Given as goal

abbrev pub invariant-loop-i : goal.invariant-loop-i
invariant-loop-i l = kept_of l.log ≡ kept_of l.fn.log
