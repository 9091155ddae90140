use Rattle.std.proofs.Common.{◌≡◌, length}
use Rattle.vsi_image.specs.Fields.{is_taken, globals}
use Rattle.vsi_image.proofs.decoder.is_taken.Given as goal

abbrev pub invariant-loop-rest : goal.invariant-loop-rest
invariant-loop-rest l = is_taken (globals l.rest) l.name ≡ is_taken (globals l.before) l.name

abbrev pub decreases-loop-rest : goal.decreases-loop-rest
decreases-loop-rest l = length l.rest
