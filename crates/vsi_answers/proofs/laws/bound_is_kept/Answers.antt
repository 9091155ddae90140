use Rattle.vsi_answers.proofs.Bounded as law
use Rattle.vsi_answers.proofs.laws.bound_is_kept.Goals as goal

pub returns : goal.returns
returns c = law.bound_is_kept
