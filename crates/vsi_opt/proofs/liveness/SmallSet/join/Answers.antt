use Rattle.std.proofs.Common.{arith, rules}
use Rattle.vsi_opt.proofs.Sets.{join_bits}
use Rattle.vsi_opt.proofs.liveness.SmallSet.join.Goals as goal

pub returns : goal.returns
returns c =
    join_bits c.args.self.now.words c.args.other.now.words c.loop-i.self.words (search rules) (search rules)
    c.loop-i.invariant.0
    (λ j lt. (c.loop-i.invariant.1 j).0 (omega (arith, lt, c.loop-i-test.false)))
