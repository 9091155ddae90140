use Rattle.std.proofs.Common.{◌≤◌, ◌-◌}
use Rattle.vsi_syntax.proofs.Places.{Stands}
use Rattle.vsi_syntax.proofs.numbers.moved.Given as goal

abbrev pub invariant-loop-i : goal.invariant-loop-i
invariant-loop-i l = record {
  stands : Stands l.text l.i l.line l.column;
  within : l.i ≤ l.end;
}

abbrev pub decreases-loop-i : goal.decreases-loop-i
decreases-loop-i l = l.end - l.i
