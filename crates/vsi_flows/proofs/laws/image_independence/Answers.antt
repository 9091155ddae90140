use Rattle.vsi_flows.proofs.ImageLemmas.{image_independence}
use Rattle.vsi_flows.proofs.laws.image_independence.Goals as goal

pub returns : goal.returns
returns c = image_independence
