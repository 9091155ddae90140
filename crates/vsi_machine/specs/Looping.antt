-- A loop that counts.
use Rattle.std.specs.Prelude.{◌≡◌, ℕ, ◌+◌, ◌*◌, ℤ, Bool, if◌then◌else◌, List, slice_get, Some}
use Rattle.vsi_syntax.specs.Operators.{less_of}
use Rattle.vsi_machine.specs.declared.loops.Known.{Known}
use Rattle.vsi_machine.specs.declared.loops.Known.TheVariants.{Number, Moved, Below, Above}
use Rattle.vsi_machine.specs.declared.bound.Cost.{Cost}
use Rattle.vsi_machine.specs.Counters.{Counts}
use Rattle.vsi_machine.specs.Loops.{Keeps, Remain}

-- The fact about a guard that compares the slot's word with the limit: that it is below the limit, or above it.
abbrev pub guard_of : Bool → ℕ → ℤ → Known
guard_of up slot limit = if up then Below slot limit else Above slot limit

-- The value of such a guard.
abbrev pub guard_value : Bool → ℤ → ℤ → ℤ
guard_value up limit now = if up then less_of now limit else less_of limit now

-- The guard compares the slot with a limit; the slot begins with a number, each turn moves it by a step, and this many
-- turns lead past the limit.
pub record IsCounter (facts : List Known) (guard : Known) (turned : List Known) (slot turns : ℕ) (last : ℤ)
    : Type 0 where
  pub up : Bool
  pub limit : ℤ
  pub start : ℤ
  pub step : ℤ
  pub guarded : guard ≡ guard_of up slot limit
  pub begins : slice_get facts slot ≡ Some (Number start)
  pub moves : slice_get turned slot ≡ Some (Moved slot step)
  pub counts : Counts (guard_value up limit) step turns start last

-- A loop with such a counter, whose turns keep each number that is known at their start: its cost, if a test takes this
-- many instructions, and the facts after it.
pub record Finished (facts entry : List Known) (guard : Known) (turned : List Known) (tested : ℕ) (body cost : Cost)
    (left : List Known) : Type 0 where
  pub slot : ℕ
  pub turns : ℕ
  pub last : ℤ
  pub counter : IsCounter facts guard turned slot turns last
  pub keeps : Keeps entry turned
  pub remain : Remain facts entry turned slot last left
  pub least : cost.least ≡ turns * (body.least + (tested + 1)) + tested
  pub most : cost.most ≡ turns * (body.most + (tested + 1)) + tested
