use Rattle.vsi_steps.proofs.Beginning.{one_spelling}
use Rattle.vsi_steps.proofs.laws.one_spelling.Goals as goal

pub returns : goal.returns
returns c = one_spelling
