use Rattle.vsi_drive.proofs.Driving as law
use Rattle.vsi_drive.proofs.laws.bounded_drives_halt.Goals as goal

pub returns : goal.returns
returns c = law.bounded_drives_halt
