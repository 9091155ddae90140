use Rattle.std.proofs.Common.{◌≡◌, ◌++◌, drop, map}
use Rattle.serde_json.specs.View.{view}
use Rattle.vsi_conform.specs.Conformity.{objects}
use Rattle.vsi_conform.specs.Rows.{row}
use Rattle.vsi_conform.proofs.conformity.points.Given as goal

-- The objects so far and those of the remaining rows are all objects.
abbrev pub invariant-loop-point : goal.invariant-loop-point
invariant-loop-point l =
    map view l.made ++ objects (map row (drop l.point-index l.rows)) ≡ objects (map row l.rows)
