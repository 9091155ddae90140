use Rattle.vsi_answers.proofs.Agreement as law
use Rattle.vsi_answers.proofs.laws.strict_is_base.Goals as goal

pub returns : goal.returns
returns c = law.strict_is_base
