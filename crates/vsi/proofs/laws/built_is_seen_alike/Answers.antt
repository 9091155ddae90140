use Rattle.vsi.proofs.Seen as law
use Rattle.vsi.proofs.laws.built_is_seen_alike.Goals as goal

pub returns : goal.returns
returns c = law.built_is_seen_alike
