use Rattle.vsi_drive.proofs.Driving as law
use Rattle.vsi_drive.proofs.laws.same_bounded_drives.Goals as goal

pub returns : goal.returns
returns c = law.same_bounded_drives
