-- The facts at the start of a code.
use Rattle.std.specs.Prelude.{◌≡◌, ℕ, List, length, slice_get, Some}
use Rattle.vsi_machine.specs.declared.loops.Known.{Known}
use Rattle.vsi_machine.specs.declared.loops.Known.TheVariants.{Same}

-- Each of this many slots has its own word.
pub record AreSame (slots : ℕ) (facts : List Known) : Type 0 where
  pub count : length facts ≡ slots
  pub each : (k : ℕ) (f : Known) → slice_get facts k ≡ Some f → f ≡ Same k
