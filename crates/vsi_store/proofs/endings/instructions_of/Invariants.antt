use Rattle.std.proofs.Common.{◌≡◌, ◌≤◌, ◌<◌, ◌-◌, Some, true, false}
use Rattle.vsi_store.specs.Compare.{halted_within}
use Rattle.vsi_store.proofs.endings.instructions_of.Given as goal

-- The run goes on after the low number of instructions, and has halted within the high one.
abbrev pub invariant-loop-high : goal.invariant-loop-high
invariant-loop-high l = record {
  apart : l.low < l.high;
  within : l.high ≤ l.budget;
  going : halted_within l.verified l.store l.low ≡ Some false;
  halted : halted_within l.verified l.store l.high ≡ Some true;
}

abbrev pub decreases-loop-high : goal.decreases-loop-high
decreases-loop-high l = l.high - l.low
