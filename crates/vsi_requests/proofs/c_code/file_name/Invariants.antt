use Rattle.std.proofs.Common.{◌≡◌, length}
use Rattle.vsi_subject.specs.Naming.{after_slash}
use Rattle.vsi_requests.proofs.c_code.file_name.Given as goal

abbrev pub invariant-loop-rest : goal.invariant-loop-rest
invariant-loop-rest l = after_slash l.found l.rest ≡ after_slash l.path l.path

abbrev pub decreases-loop-rest : goal.decreases-loop-rest
decreases-loop-rest l = length l.rest
