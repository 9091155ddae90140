-- The tokens that may come next before pending parts.
use Rattle.std.proofs.Common.{◌≡◌, Bool, true, false, List, refl}
use Rattle.std.specs.Prelude.{is_some}
use Rattle.vsi_recovery.specs.declared.rules.Wanted.{Wanted}
use Rattle.vsi_recovery.specs.Rules.{reached}

-- A token may come next exactly if a reader reached the parts after it.
pub reached_stands : (stands : Bool) (xs : List Wanted) → is_some (reached stands xs) ≡ stands
reached_stands true xs = refl
reached_stands false xs = refl
