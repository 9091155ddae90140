use Rattle.std.proofs.Common.{◌≡◌, ◌&&◌, take, reverse}
use Rattle.std.specs.Prelude.{is_some}
use Rattle.vsi_recovery.specs.declared.sort.Sort.{Sort}
use Rattle.vsi_recovery.specs.declared.sort.TheConstants.{SORTS}
use Rattle.vsi_recovery.specs.Rules.{step}
use Rattle.vsi_recovery.specs.Told.{told}
use Rattle.vsi_recovery.proofs.expected.sorts_of.Given as goal

abbrev pub invariant-loop-sort : goal.invariant-loop-sort
invariant-loop-sort l =
    (s : Sort) → told l.sorts.items s ≡ (told (take l.sort-index SORTS) s && is_some (step (reverse l.ahead) s))
