use Rattle.std.proofs.Common.{◌≡◌, ◌+◌, drop}
use Rattle.vsi_scope.specs.Language.{letvars}
use Rattle.vsi_scope.specs.View.{sequence}
use Rattle.vsi_opt.specs.Folding.{append}
use Rattle.vsi_opt.specs.Liveness.{kept_in_loop}
use Rattle.vsi_opt.specs.Loops.{KeptInLoopFits}
use Rattle.vsi_opt.specs.Ranges.{bits}
use Rattle.vsi_opt.proofs.liveness.+kept_in_loop.Given as goal

abbrev pub invariant-kept_in_loop_all-loop-c : goal.invariant-kept_in_loop_all-loop-c
invariant-kept_in_loop_all-loop-c l =
    (append (sequence l.out.items) (kept_in_loop l.scope (sequence (drop l.c-index l.body)) (bits l.live))
    ≡ kept_in_loop l.scope (sequence l.body) (bits l.live))
    × KeptInLoopFits (bits l.own) l.scope l.next (sequence (drop l.c-index l.body))
    × (l.next + letvars (sequence (drop l.c-index l.body)) ≡ l.fn.next + letvars (sequence l.body))
