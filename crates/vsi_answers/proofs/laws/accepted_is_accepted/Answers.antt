use Rattle.vsi_answers.proofs.Agreement as law
use Rattle.vsi_answers.proofs.laws.accepted_is_accepted.Goals as goal

pub returns : goal.returns
returns c = law.accepted_is_accepted
