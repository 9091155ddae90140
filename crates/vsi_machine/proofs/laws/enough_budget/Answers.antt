use Rattle.vsi_machine.proofs.Ending as law
use Rattle.vsi_machine.proofs.laws.enough_budget.Goals as goal

pub returns : goal.returns
returns c = law.enough_budget
