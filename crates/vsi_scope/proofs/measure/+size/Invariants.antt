use Rattle.std.proofs.Common.{◌≡◌, min, drop, ◌+◌, ◌≤◌}
use Rattle.vsi_scope.specs.Language.{size}
use Rattle.vsi_scope.specs.View.{sequence}
use Rattle.vsi_scope.proofs.measure.+size.Given as goal

abbrev pub invariant-size-loop-c : goal.invariant-size-loop-c
invariant-size-loop-c l =
    (l.n ≤ 4294967295) × (min (size (sequence l.body)) 4294967295
    ≡ min (l.n + size (sequence (drop l.c-index l.body))) 4294967295)
