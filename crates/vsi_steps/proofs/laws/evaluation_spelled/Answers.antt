use Rattle.vsi_steps.proofs.Spelling.{evaluation_spelled}
use Rattle.vsi_steps.proofs.laws.evaluation_spelled.Goals as goal

pub returns : goal.returns
returns c = evaluation_spelled
