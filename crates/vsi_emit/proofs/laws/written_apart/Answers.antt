use Rattle.vsi_emit.proofs.Apart.{written_apart}
use Rattle.vsi_emit.proofs.laws.written_apart.Goals as goal

pub returns : goal.returns
returns c = written_apart
