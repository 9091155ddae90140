use Rattle.std.specs.Prelude.{◌≤◌}
use Rattle.vsi_leak.proofs.search.sweep.Given as goal

abbrev pub invariant-loop-place : goal.invariant-loop-place
invariant-loop-place l = l.pairs ≤ l.tries

abbrev pub invariant-loop-value : goal.invariant-loop-value
invariant-loop-value l = l.pairs ≤ l.tries
