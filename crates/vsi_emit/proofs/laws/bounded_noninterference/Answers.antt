use Rattle.vsi_emit.proofs.Following.{bounded_noninterference}
use Rattle.vsi_emit.proofs.laws.bounded_noninterference.Goals as goal

pub returns : goal.returns
returns c = bounded_noninterference
