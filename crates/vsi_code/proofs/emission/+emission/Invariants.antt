use Rattle.std.proofs.Common.{◌≡◌, take}
use Rattle.vsi_scope.specs.View.{sequence}
use Rattle.vsi_code.specs.Layout.{with_code}
use Rattle.vsi_code.proofs.emission.+emission.Given as goal

abbrev pub invariant-emit_all-loop-c : goal.invariant-emit_all-loop-c
invariant-emit_all-loop-c l =
    l.code.items ≡ with_code l.fn.code.items l.scope (sequence (take l.c-index l.body))
