use Rattle.vsi_machine.proofs.Counts as law
use Rattle.vsi_machine.proofs.laws.one_count.Goals as goal

pub returns : goal.returns
returns c = law.one_count
