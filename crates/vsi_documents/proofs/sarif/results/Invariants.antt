use Rattle.std.proofs.Common.{◌≡◌, ◌++◌, drop, map}
use Rattle.serde_json.specs.View.{view}
use Rattle.vsi_conform.specs.Rows.{row}
use Rattle.vsi_documents.specs.Findings as findings
use Rattle.vsi_documents.proofs.sarif.results.Given as goal

-- The objects so far and those of the remaining rows are all objects.
abbrev pub invariant-loop-point : goal.invariant-loop-point
invariant-loop-point l =
    map view l.found ++ findings.results l.uri (map row (drop l.point-index l.rows))
    ≡ findings.results l.uri (map row l.rows)
