use Rattle.std.proofs.Common.{◌≡◌, ◌++◌, drop, map}
use Rattle.std.specs.List.{flat_map}
use Rattle.vsi_conform.specs.Conformity.{conforms, said, verdict_line}
use Rattle.vsi_conform.specs.Lines.{line}
use Rattle.vsi_conform.specs.ReachedLines.{released_lines}
use Rattle.vsi_conform.specs.Reaching.{released}
use Rattle.vsi_conform.specs.Rows.{row}
use Rattle.vsi_conform.proofs.conformity.Conformity.lines.Given as goal

-- The lines so far are followed by those of the remaining rows.
abbrev pub invariant-loop-point : goal.invariant-loop-point
invariant-loop-point l =
    l.text.items ++ flat_map line (map row (drop l.point-index l.self.rows.items))
    ≡ verdict_line (conforms (said l.self)) ++ flat_map line (map row l.self.rows.items)

-- The lines so far are followed by those of the remaining outputs.
abbrev pub invariant-loop-reach : goal.invariant-loop-reach
invariant-loop-reach l =
    l.text.items ++ released_lines (map released (drop l.reach-index l.self.reaches.items))
    ≡ (verdict_line (conforms (said l.self)) ++ flat_map line (map row l.self.rows.items))
    ++ released_lines (map released l.self.reaches.items)
