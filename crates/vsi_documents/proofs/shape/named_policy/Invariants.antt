use Rattle.std.proofs.Common.{◌≡◌, ◌+◌, length}
use Rattle.vsi_documents.specs.Named.{line_length}
use Rattle.vsi_documents.proofs.shape.named_policy.Given as goal

abbrev pub invariant-loop-rest : goal.invariant-loop-rest
invariant-loop-rest l =
    (l.count + line_length l.rest ≡ line_length l.path) × (l.count + length l.rest ≡ length l.path)

abbrev pub decreases-loop-rest : goal.decreases-loop-rest
decreases-loop-rest l = length l.rest
