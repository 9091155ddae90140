use Rattle.vsi_machine.proofs.Budgets as law
use Rattle.vsi_machine.proofs.laws.one_ending.Goals as goal

pub returns : goal.returns
returns c = law.one_ending
