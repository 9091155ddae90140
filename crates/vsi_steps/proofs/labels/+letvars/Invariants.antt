use Rattle.std.proofs.Common.{◌≡◌, min, drop, ◌+◌, ◌≤◌}
use Rattle.vsi_scope.specs.Language.{letvars}
use Rattle.vsi_scope.specs.View.{sequence}
use Rattle.vsi_steps.proofs.labels.+letvars.Given as goal

abbrev pub invariant-letvars-loop-c : goal.invariant-letvars-loop-c
invariant-letvars-loop-c l =
    (l.n ≤ 65535) × (min (letvars (sequence l.body)) 65535
    ≡ min (l.n + letvars (sequence (drop l.c-index l.body))) 65535)
