use Rattle.vsi_steps.proofs.More.{stops_fewer}
use Rattle.vsi_steps.proofs.laws.stops_fewer.Goals as goal

pub returns : goal.returns
returns c = stops_fewer
