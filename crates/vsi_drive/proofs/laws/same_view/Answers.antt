use Rattle.vsi_drive.proofs.Seen as law
use Rattle.vsi_drive.proofs.laws.same_view.Goals as goal

pub returns : goal.returns
returns c = law.same_view
