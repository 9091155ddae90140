use Rattle.std.proofs.Common.{◌≡◌, length}
use Rattle.vsi_documents.specs.Named.{first_comment}
use Rattle.vsi_documents.proofs.shape.first_comment.Given as goal

abbrev pub invariant-loop-rest : goal.invariant-loop-rest
invariant-loop-rest l = first_comment l.rest ≡ first_comment l.text

abbrev pub decreases-loop-rest : goal.decreases-loop-rest
decreases-loop-rest l = length l.rest
