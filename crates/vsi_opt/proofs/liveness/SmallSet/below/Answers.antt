use Rattle.vsi_opt.specs.Ranges.{bits}
use Rattle.vsi_opt.proofs.Sets.{none_below, below_more}
use Rattle.vsi_opt.proofs.liveness.SmallSet.below.Goals as goal

pub loop-n-init : goal.loop-n-init
loop-n-init c = none_below

pub loop-n-preserved : goal.loop-n-preserved
loop-n-preserved c = below_more c.loop-n.n (bits c.loop-n.set) (bits c.insert.new.self) c.loop-n.invariant
    c.insert.ensures
