use Rattle.vsi_syntax.proofs.Laid.{layout_again}
use Rattle.vsi_syntax.proofs.laws.laid_again.Goals as goal

pub returns : goal.returns
returns c = layout_again
