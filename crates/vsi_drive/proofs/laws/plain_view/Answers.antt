use Rattle.vsi_drive.proofs.Viewed as law
use Rattle.vsi_drive.proofs.laws.plain_view.Goals as goal

pub returns : goal.returns
returns c = law.plain_view
