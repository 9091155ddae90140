use Rattle.vsi_scope.proofs.Faultless.{faultless_resolves}
use Rattle.vsi_scope.proofs.laws.faultless_resolves.Goals as goal

pub returns : goal.returns
returns c = faultless_resolves
