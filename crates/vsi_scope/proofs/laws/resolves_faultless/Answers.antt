use Rattle.vsi_scope.proofs.Top.{resolution_clean}
use Rattle.vsi_scope.proofs.laws.resolves_faultless.Goals as goal

pub returns : goal.returns
returns c = resolution_clean
