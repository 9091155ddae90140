use Rattle.vsi_answers.proofs.Agreement as law
use Rattle.vsi_answers.proofs.laws.built_is_accepted.Goals as goal

pub returns : goal.returns
returns c = law.built_is_accepted
