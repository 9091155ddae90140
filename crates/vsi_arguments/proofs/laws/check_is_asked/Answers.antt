use Rattle.vsi_arguments.proofs.Plain as law
use Rattle.vsi_arguments.proofs.laws.check_is_asked.Goals as goal

pub returns : goal.returns
returns c = law.check_is_asked
