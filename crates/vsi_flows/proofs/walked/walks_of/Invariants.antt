use Rattle.std.proofs.Common.{take}
use Rattle.vsi_types.specs.Security.{program, steps_of}
use Rattle.vsi_flows.specs.Refused.{AreWalked}
use Rattle.vsi_flows.proofs.walked.walks_of.Given as goal

abbrev pub invariant-loop-pair : goal.invariant-loop-pair
invariant-loop-pair g l =
    AreWalked (steps_of l.profile (program l.program)) (take l.pair-index l.pairs) l.entries.items
