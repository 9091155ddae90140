use Rattle.std.proofs.Common.{◌≡◌, length}
use Rattle.vsi_client.specs.Changes as spec
use Rattle.vsi_client.proofs.changes.changed_by.Given as goal

-- The changes that are left make of the text so far what all make of the first text.
abbrev pub invariant-loop-rest : goal.invariant-loop-rest
invariant-loop-rest l =
    spec.changed_by l.encoding l.rest l.current.items ≡ spec.changed_by l.encoding l.changes l.text

abbrev pub decreases-loop-rest : goal.decreases-loop-rest
decreases-loop-rest l = length l.rest
