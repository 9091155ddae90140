use Rattle.vsi.proofs.Left as law
use Rattle.vsi.proofs.laws.left_is_seen_alike.Goals as goal

pub returns : goal.returns
returns c = law.left_is_seen_alike
