use Rattle.std.proofs.Common.{◌≡◌, ◌++◌, take, reverse}
use Rattle.vsi_recovery.proofs.rules.put.Given as goal

abbrev pub invariant-loop-i : goal.invariant-loop-i
invariant-loop-i l = l.ahead.items ≡ l.initial.ahead.items ++ take l.i (reverse l.parts)
