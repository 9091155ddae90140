use Rattle.vsi_emit.proofs.Following.{answers_last}
use Rattle.vsi_emit.proofs.laws.answers_last.Goals as goal

pub returns : goal.returns
returns c = answers_last
