use Rattle.vsi_compiler.proofs.Profiles as law
use Rattle.vsi_compiler.proofs.laws.one_image.Goals as goal

pub returns : goal.returns
returns c = law.one_image
