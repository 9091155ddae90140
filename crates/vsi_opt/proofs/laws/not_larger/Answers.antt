use Rattle.vsi_opt.proofs.Kept.{not_larger}
use Rattle.vsi_opt.proofs.laws.not_larger.Goals as goal

pub returns : goal.returns
returns c = not_larger
