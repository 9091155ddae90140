use Rattle.vsi_answers.proofs.Agreement as law
use Rattle.vsi_answers.proofs.laws.same_view.Goals as goal

pub returns : goal.returns
returns c = law.same_view
