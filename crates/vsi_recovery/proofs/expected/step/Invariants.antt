use Rattle.std.proofs.Common.{◌≡◌, length, reverse}
use Rattle.vsi_recovery.specs.Rules.{step}
use Rattle.vsi_recovery.proofs.expected.step.Given as goal

abbrev pub invariant-loop-wanted : goal.invariant-loop-wanted
invariant-loop-wanted l = step (reverse l.ahead.items) l.sort ≡ step (reverse l.initial.ahead.items) l.sort

abbrev pub decreases-loop-wanted : goal.decreases-loop-wanted
decreases-loop-wanted l = length l.ahead.items
