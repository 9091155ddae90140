use Rattle.vsi_opt.proofs.Kept.{nothing_to_fold}
use Rattle.vsi_opt.proofs.laws.nothing_to_fold.Goals as goal

pub returns : goal.returns
returns c = nothing_to_fold
