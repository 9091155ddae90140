use Rattle.vsi_machine.proofs.Progress as law
use Rattle.vsi_machine.proofs.laws.never_stuck.Goals as goal

pub returns : goal.returns
returns c = law.never_stuck
