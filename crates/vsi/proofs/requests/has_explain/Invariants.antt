use Rattle.std.proofs.Common.{◌≡◌, length}
use Rattle.vsi_subject.specs.Words.{has_explain}
use Rattle.vsi.proofs.requests.has_explain.Given as goal

abbrev pub invariant-loop-rest : goal.invariant-loop-rest
invariant-loop-rest l = has_explain l.rest ≡ has_explain l.words

abbrev pub decreases-loop-rest : goal.decreases-loop-rest
decreases-loop-rest l = length l.rest
