use Rattle.vsi_emit.proofs.Following.{noninterference}
use Rattle.vsi_emit.proofs.laws.noninterference.Goals as goal

pub returns : goal.returns
returns c = noninterference
