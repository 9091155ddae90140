use Rattle.vsi_answers.proofs.Bounded as law
use Rattle.vsi_answers.proofs.laws.bounded_is_noninterfering.Goals as goal

pub returns : goal.returns
returns c = law.bounded_is_noninterfering
