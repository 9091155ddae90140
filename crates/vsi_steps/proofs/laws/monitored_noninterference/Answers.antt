use Rattle.vsi_steps.proofs.Agreeing.{monitored_noninterference}
use Rattle.vsi_steps.proofs.laws.monitored_noninterference.Goals as goal

pub returns : goal.returns
returns c = monitored_noninterference
