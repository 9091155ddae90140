use Rattle.std.proofs.Common.{◌≡◌, take}
use Rattle.vsi_flows.specs.Refused.{refused_of}
use Rattle.vsi_flows.proofs.table.without_allowed.Given as goal

abbrev pub invariant-loop-pair : goal.invariant-loop-pair
invariant-loop-pair l = l.kept.items ≡ refused_of (take l.pair-index l.pairs)
