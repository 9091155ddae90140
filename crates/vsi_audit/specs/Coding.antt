-- The place of code within other code.
use Rattle.std.specs.Prelude.{◌≡◌, ℕ, ◌+◌, List, ◌++◌, drop}
use Rattle.vsi_image.specs.declared.instr.Instr.{Instr}

-- The code has this part, of this many instructions, from a place on, and continues after it.
pub record StandsAt (code part : List Instr) (place size end : ℕ) : Type 0 where
  pub whole : drop place code ≡ part ++ drop end code
  pub long : end ≡ place + size
