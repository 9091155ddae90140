use Rattle.std.proofs.Common.{◌≡◌, length, reverse}
use Rattle.vsi_recovery.specs.Rules.{can_end}
use Rattle.vsi_recovery.proofs.expected.can_end.Given as goal

abbrev pub invariant-loop-wanted : goal.invariant-loop-wanted
invariant-loop-wanted l = can_end (reverse l.ahead.items) ≡ can_end (reverse l.initial.ahead.items)

abbrev pub decreases-loop-wanted : goal.decreases-loop-wanted
decreases-loop-wanted l = length l.ahead.items
