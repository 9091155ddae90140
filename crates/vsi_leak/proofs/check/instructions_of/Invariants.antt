use Rattle.std.specs.Prelude.{◌-◌, ◌≤◌}
use Rattle.vsi_leak.specs.Leaks.{GoesOn, HasHalted}
use Rattle.vsi_leak.proofs.check.instructions_of.Given as goal

-- The run goes on within the lower bound, and has halted within the upper bound.
abbrev pub invariant-loop-enough : goal.invariant-loop-enough
invariant-loop-enough l =
    GoesOn l.verified l.store l.few × HasHalted l.verified l.store l.enough × (l.enough ≤ l.budget)

abbrev pub decreases-loop-enough : goal.decreases-loop-enough
decreases-loop-enough l = l.enough - l.few
