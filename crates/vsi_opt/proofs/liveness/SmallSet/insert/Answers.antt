use Rattle.std.proofs.Common.{rules}
use Rattle.vsi_opt.proofs.Sets.{insert_bits}
use Rattle.vsi_opt.proofs.liveness.SmallSet.insert.Goals as goal

pub returns : goal.returns
returns c = insert_bits c.args.self.now.words c.args.n c.requires (search rules)
