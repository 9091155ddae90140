use Rattle.std.proofs.Common.{◌≡◌, ◌+◌, ◌++◌, drop}
use Rattle.vsi_scope.specs.Language.{letvars}
use Rattle.vsi_scope.specs.View.{sequence}
use Rattle.vsi_opt.specs.Remaining.{remaining}
use Rattle.vsi_opt.proofs.optimiser.+picking.Given as goal

abbrev pub invariant-pick_all-loop-c : goal.invariant-pick_all-loop-c
invariant-pick_all-loop-c l =
    (l.next + letvars (sequence (drop l.c-index l.body)) ≡ l.fn.next + letvars (sequence l.body))
    × (l.out.items ++ remaining (sequence (drop l.c-index l.body)) l.next
    ≡ l.fn.out.items ++ remaining (sequence l.body) l.fn.next)
