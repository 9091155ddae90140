use Rattle.vsi_steps.proofs.Passing.{typable_passes}
use Rattle.vsi_steps.proofs.laws.typable_passes.Goals as goal

pub returns : goal.returns
returns c = typable_passes
