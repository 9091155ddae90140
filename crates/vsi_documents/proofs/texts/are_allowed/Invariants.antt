use Rattle.std.proofs.Common.{◌≡◌, length}
use Rattle.vsi_documents.specs.Flows.{are_allowed}
use Rattle.vsi_documents.proofs.texts.are_allowed.Given as goal

-- All pairs are allowed exactly if the remaining ones are.
abbrev pub invariant-loop-rest : goal.invariant-loop-rest
invariant-loop-rest l = are_allowed l.rest ≡ are_allowed l.pairs

abbrev pub decreases-loop-rest : goal.decreases-loop-rest
decreases-loop-rest l = length l.rest
