use Rattle.vsi_image.proofs.Limited.{limits, no_limits}
use Rattle.vsi_image.proofs.laws.limit_law.Goals as goal

pub returns : goal.returns
returns c = record { allowed = λ f. (limits f, no_limits f) }
