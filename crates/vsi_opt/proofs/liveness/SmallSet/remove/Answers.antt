use Rattle.std.proofs.Common.{rules}
use Rattle.vsi_opt.proofs.Sets.{remove_bits}
use Rattle.vsi_opt.proofs.liveness.SmallSet.remove.Goals as goal

pub returns : goal.returns
returns c = remove_bits c.args.self.now.words c.args.n c.requires (search rules)
