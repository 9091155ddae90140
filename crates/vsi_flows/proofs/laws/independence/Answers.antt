use Rattle.vsi_flows.proofs.IndependenceLemmas.{independence}
use Rattle.vsi_flows.proofs.laws.independence.Goals as goal

pub returns : goal.returns
returns c = independence
