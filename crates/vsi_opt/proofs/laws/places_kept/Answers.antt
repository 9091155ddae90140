use Rattle.vsi_opt.proofs.Kept.{places_kept}
use Rattle.vsi_opt.proofs.laws.places_kept.Goals as goal

pub returns : goal.returns
returns c = places_kept
