use Rattle.std.proofs.Common.{◌≡◌, ◌++◌, drop, map}
use Rattle.serde_json.specs.View.{view}
use Rattle.vsi_documents.specs.Findings.{rules_of}
use Rattle.vsi_documents.proofs.sarif.rules.Given as goal

-- The objects so far and those of the remaining kinds are all objects.
abbrev pub invariant-loop-kind : goal.invariant-loop-kind
invariant-loop-kind l = map view l.found ++ rules_of (drop l.kind-index l.kinds) ≡ rules_of l.kinds
