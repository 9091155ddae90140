use Rattle.vsi_machine.proofs.Budgets as law
use Rattle.vsi_machine.proofs.laws.halting_lasts.Goals as goal

pub returns : goal.returns
returns c = law.halting_lasts
