use Rattle.vsi_steps.proofs.Computing.{computes_the_same}
use Rattle.vsi_steps.proofs.laws.computes_the_same.Goals as goal

pub returns : goal.returns
returns c = computes_the_same
