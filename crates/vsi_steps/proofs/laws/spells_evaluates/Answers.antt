use Rattle.vsi_steps.proofs.Spelling.{spells_evaluates}
use Rattle.vsi_steps.proofs.laws.spells_evaluates.Goals as goal

pub returns : goal.returns
returns c = spells_evaluates
