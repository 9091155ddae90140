use Rattle.std.proofs.Common.{take}
use Rattle.vsi_scope.specs.View.{sequence}
use Rattle.vsi_answers.specs.Stamps.{IsWalked}
use Rattle.vsi_answers.proofs.loops.+loops.Given as goal

abbrev pub invariant-put_all-loop-c : goal.invariant-put_all-loop-c
invariant-put_all-loop-c l =
    IsWalked (sequence (take l.c-index l.body)) l.fn.found.items l.fn.stamps.items l.found.items l.stamps.items
