use Rattle.std.proofs.Common.{◌≡◌, drop}
use Rattle.vsi_recovery.specs.Told.{told}
use Rattle.vsi_recovery.proofs.expected.Expected.has.Given as goal

abbrev pub invariant-loop-told : goal.invariant-loop-told
invariant-loop-told l = told l.self.sorts.items l.sort ≡ told (drop l.told-index l.self.sorts.items) l.sort
