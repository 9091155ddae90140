use Rattle.std.proofs.Common.{take}
use Rattle.vsi_opt.specs.Remaining.{HasEntries}
use Rattle.vsi_opt.proofs.optimiser.remaining_entries.Given as goal

abbrev pub invariant-loop-n : goal.invariant-loop-n
invariant-loop-n l = HasEntries l.out.items l.entries (take l.n-index l.n-items)
