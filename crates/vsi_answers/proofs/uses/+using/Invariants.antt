use Rattle.std.proofs.Common.{◌≡◌, take, false}
use Rattle.vsi_answers.specs.Warned.{used}
use Rattle.vsi_scope.specs.View.{sequence}
use Rattle.vsi_answers.proofs.uses.+using.Given as goal

abbrev pub invariant-are_using-loop-c : goal.invariant-are_using-loop-c
invariant-are_using-loop-c l = used l.counts (sequence (take l.c-index l.body)) l.location ≡ false
