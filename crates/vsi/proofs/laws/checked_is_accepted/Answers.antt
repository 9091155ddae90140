use Rattle.vsi.proofs.Checked as law
use Rattle.vsi.proofs.laws.checked_is_accepted.Goals as goal

pub returns : goal.returns
returns c = law.checked_is_accepted
