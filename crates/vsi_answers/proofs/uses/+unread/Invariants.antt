use Rattle.std.proofs.Common.{◌≡◌, ◌++◌, drop}
use Rattle.vsi_scope.specs.View.{sequence}
use Rattle.vsi_answers.specs.Warned.{unread}
use Rattle.vsi_answers.proofs.uses.+unread.Given as goal

abbrev pub invariant-put_all-loop-c : goal.invariant-put_all-loop-c
invariant-put_all-loop-c l =
    l.found.items ++ unread l.scope (sequence (drop l.c-index l.body))
    ≡ l.fn.found.items ++ unread l.scope (sequence l.body)
