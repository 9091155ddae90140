use Rattle.std.proofs.Common.{◌≡◌, ◌+◌, drop}
use Rattle.vsi_scope.specs.Language.{letvars}
use Rattle.vsi_scope.specs.View.{sequence}
use Rattle.vsi_opt.proofs.optimiser.+passing.Given as goal

abbrev pub invariant-pass_all-loop-c : goal.invariant-pass_all-loop-c
invariant-pass_all-loop-c l =
    l.next + letvars (sequence (drop l.c-index l.body)) ≡ l.fn.next + letvars (sequence l.body)
