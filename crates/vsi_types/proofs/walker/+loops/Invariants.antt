use Rattle.std.proofs.Common.{◌≡◌, take, false}
use Rattle.vsi_scope.specs.Language.{has_loop}
use Rattle.vsi_scope.specs.View.{sequence}
use Rattle.vsi_types.proofs.walker.+loops.Given as goal

abbrev pub invariant-loops-loop-c : goal.invariant-loops-loop-c
invariant-loops-loop-c l = has_loop (sequence (take l.c-index l.body)) ≡ false
