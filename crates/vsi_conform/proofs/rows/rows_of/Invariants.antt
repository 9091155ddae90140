use Rattle.std.proofs.Common.{◌≡◌, ◌++◌, drop, map}
use Rattle.vsi_conform.specs.declared.rows.Kind.TheVariants.{Refused}
use Rattle.vsi_conform.specs.Rows.{held_of, lines_rows, row, row_of}
use Rattle.vsi_conform.proofs.rows.rows_of.Given as goal

-- The rows so far are followed by those of the remaining points.
abbrev pub invariant-loop-point : goal.invariant-loop-point
invariant-loop-point l =
    map row l.found.items ++ map (row_of l.interface (held_of l.judged)) (drop l.point-index l.points)
    ≡ lines_rows Refused l.refusal ++ map (row_of l.interface (held_of l.judged)) l.points
