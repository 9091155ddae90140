use Rattle.std.specs.Prelude.{◌*◌, ◌≤◌}
use Rattle.vsi_leak.proofs.whole.at_classes.Given as goal

-- Each class before this one adds its tries at most.
abbrev pub invariant-loop-class : goal.invariant-loop-class
invariant-loop-class l = l.done ≤ l.effort.tries * l.class-index
