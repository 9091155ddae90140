use Rattle.vsi_drive.proofs.Viewed as law
use Rattle.vsi_drive.proofs.laws.same_released_compiled_views.Goals as goal

pub returns : goal.returns
returns c = law.same_released_compiled_views
