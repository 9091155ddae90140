use Rattle.std.proofs.Common.{◌≤◌}
use Rattle.vsi_answers.proofs.bounds.loops_before.Given as goal

abbrev pub invariant-loop-place : goal.invariant-loop-place
invariant-loop-place l = l.count ≤ l.place
