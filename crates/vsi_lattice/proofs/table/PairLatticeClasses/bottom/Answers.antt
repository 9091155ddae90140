use Rattle.std.proofs.Common.{rules}
use Rattle.vsi_lattice.proofs.table.PairLatticeClasses.bottom.Goals as goal

pub returns : goal.returns
returns c = search rules
