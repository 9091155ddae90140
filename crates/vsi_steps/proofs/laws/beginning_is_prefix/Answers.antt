use Rattle.vsi_steps.proofs.Beginning.{beginning_is_prefix}
use Rattle.vsi_steps.proofs.laws.beginning_is_prefix.Goals as goal

pub returns : goal.returns
returns c = beginning_is_prefix
