use Rattle.vsi_compiler.proofs.Profiles as law
use Rattle.vsi_compiler.proofs.laws.strict_implies_base.Goals as goal

pub returns : goal.returns
returns c = law.strict_implies_base
