use Rattle.vsi_types.specs.Steps.{flows}
use Rattle.vsi_infer.specs.FirstSteps.{IsAmong, kept_of}
use Rattle.vsi_infer.proofs.looking.look_word.Given as goal

abbrev pub invariant-loop-bit : goal.invariant-loop-bit
invariant-loop-bit g l = IsAmong (g.W.Wanted.wants l.wanted) (flows l.target l.written l.guards)
    (kept_of l.fn.log) (kept_of l.log)
