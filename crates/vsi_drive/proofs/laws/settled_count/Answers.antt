use Rattle.vsi_drive.proofs.Settling as law
use Rattle.vsi_drive.proofs.laws.settled_count.Goals as goal

pub returns : goal.returns
returns c = law.settled_count c.steady_runs_alike.ensures
