use Rattle.vsi_machine.proofs.Ending as law
use Rattle.vsi_machine.proofs.laws.exact_count.Goals as goal

pub returns : goal.returns
returns c = law.exact_count
