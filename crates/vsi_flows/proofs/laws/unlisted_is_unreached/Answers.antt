use Rattle.vsi_flows.proofs.IndependenceLemmas.{unlisted_is_unreached}
use Rattle.vsi_flows.proofs.laws.unlisted_is_unreached.Goals as goal

pub returns : goal.returns
returns c = unlisted_is_unreached
