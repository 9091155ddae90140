use Rattle.std.proofs.Common.{◌≤◌, ◌-◌}
use Rattle.vsi_infer.specs.Lines.{IsMarkOf}
use Rattle.vsi_infer.proofs.explanation.place_among.Given as goal

abbrev pub invariant-loop-here : goal.invariant-loop-here
invariant-loop-here l = record {
  mark : IsMarkOf l.text l.here;
  within : l.here.at ≤ l.end;
}

abbrev pub decreases-loop-here : goal.decreases-loop-here
decreases-loop-here l = l.end - l.here.at
