use Rattle.std.proofs.Common.{◌≡◌, ◌++◌, length}
use Rattle.vsi_syntax.specs.Places as spec
use Rattle.vsi_syntax.proofs.layouts.lines_of.Given as goal

abbrev pub invariant-loop-rest : goal.invariant-loop-rest
invariant-loop-rest l = record {
  made : l.lines.items ++ spec.change_lines l.text l.last l.rest ≡ spec.change_lines l.text 0 l.starts;
  is_spot : spec.IsSpot l.text l.spot;
}

abbrev pub decreases-loop-rest : goal.decreases-loop-rest
decreases-loop-rest l = length l.rest
