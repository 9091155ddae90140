use Rattle.std.proofs.Common.{◌-◌, length}
use Rattle.std.specs.List.{All}
use Rattle.vsi_infer.specs.Lines.{IsMarkOf}
use Rattle.vsi_infer.proofs.explanation.marks_of.Given as goal

abbrev pub invariant-loop-mark : goal.invariant-loop-mark
invariant-loop-mark l = record {
  mark : IsMarkOf l.text l.mark;
  marks : All (IsMarkOf l.text) l.marks.items;
}

abbrev pub decreases-loop-mark : goal.decreases-loop-mark
decreases-loop-mark l = length l.text - l.mark.at
