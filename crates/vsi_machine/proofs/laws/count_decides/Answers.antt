use Rattle.vsi_machine.proofs.Counts as law
use Rattle.vsi_machine.proofs.laws.count_decides.Goals as goal

pub returns : goal.returns
returns c = law.count_decides
