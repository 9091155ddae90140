use Rattle.vsi_audit.proofs.Compiled as law
use Rattle.vsi_audit.proofs.laws.compiled_has_commands.Goals as goal

pub returns : goal.returns
returns c = law.compiled_has_commands
