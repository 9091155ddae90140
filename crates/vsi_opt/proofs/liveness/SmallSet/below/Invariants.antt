use Rattle.std.proofs.Common.{◌≡◌}
use Rattle.vsi_opt.specs.Ranges.{bits}
use Rattle.vsi_opt.specs.Optimised.{globals_alone}
use Rattle.vsi_opt.proofs.liveness.SmallSet.below.Given as goal

abbrev pub invariant-loop-n : goal.invariant-loop-n
invariant-loop-n l = bits l.set ≡ globals_alone l.n
