use Rattle.vsi_steady.proofs.Seen as law
use Rattle.vsi_steady.proofs.laws.steady_views_alike.Goals as goal

pub returns : goal.returns
returns c = law.steady_views_alike
