use Rattle.std.proofs.Common.{◌≡◌, drop}
use Rattle.vsi_scope.specs.View.{sequence}
use Rattle.vsi_opt.specs.Folding.{append}
use Rattle.vsi_steady.specs.Looped.{looped}
use Rattle.vsi_steady.proofs.source.+watching.Given as goal

abbrev pub invariant-watch_all-loop-c : goal.invariant-watch_all-loop-c
invariant-watch_all-loop-c l = append (sequence l.out.items) (looped (sequence (drop l.c-index l.body))) ≡ append
    (sequence l.fn.out.items) (looped (sequence l.body))
