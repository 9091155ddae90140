use Rattle.vsi_syntax.proofs.FirstFault.{one_fault}
use Rattle.vsi_syntax.proofs.laws.one_fault.Goals as goal

pub returns : goal.returns
returns c = one_fault
