use Rattle.std.proofs.Common.{◌≡◌, ◌+◌, length}
use Rattle.vsi_subject.specs.Naming.{plain_length}
use Rattle.vsi_requests.proofs.c_code.plain_length.Given as goal

abbrev pub invariant-loop-rest : goal.invariant-loop-rest
invariant-loop-rest l =
    (l.count + plain_length l.rest ≡ plain_length l.name) × (l.count + length l.rest ≡ length l.name)

abbrev pub decreases-loop-rest : goal.decreases-loop-rest
decreases-loop-rest l = length l.rest
