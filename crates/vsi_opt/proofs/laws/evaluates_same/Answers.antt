use Rattle.vsi_opt.proofs.LiveRuns.{evaluates_same}
use Rattle.vsi_opt.proofs.laws.evaluates_same.Goals as goal

pub returns : goal.returns
returns c = evaluates_same
