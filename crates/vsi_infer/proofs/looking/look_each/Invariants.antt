use Rattle.std.proofs.Common.{take}
use Rattle.vsi_types.specs.Steps.{flows}
use Rattle.vsi_infer.specs.FirstSteps.{IsFrom, kept_of}
use Rattle.vsi_infer.proofs.looking.look_each.Given as goal

abbrev pub invariant-loop-g : goal.invariant-loop-g
invariant-loop-g g l = IsFrom (g.W.Wanted.wants l.wanted) (flows l.target l.written (take l.g-index l.guards))
    (kept_of l.fn.log) (kept_of l.log)
