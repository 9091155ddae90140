-- The reasons why a loop has no counter.
use Rattle.std.specs.Prelude.{◌≡◌, ◌≢◌, ℕ, zero, suc, ℤ, pos, negsuc, ◌+ℤ◌, ◌<ℤ◌, ◌≤ℤ◌, Bool, true, false, ◌⊎◌, List, slice_get, Some}
use Rattle.vsi_machine.specs.declared.loops.Known.{Known}
use Rattle.vsi_machine.specs.declared.loops.Known.TheVariants.{Number, Moved}
use Rattle.vsi_machine.specs.declared.bound.Reason.{Reason}
use Rattle.vsi_machine.specs.declared.bound.Reason.TheVariants.{Guard, Start, Step, Wraps}
use Rattle.vsi_machine.specs.Looping.{guard_of, guard_value}

-- The step doesn't lead towards a limit above, or below.
abbrev pub LeadsAway : Bool → ℤ → Type 0
LeadsAway true step = step ≤ℤ pos 0
LeadsAway false step = pos 0 ≤ℤ step

-- The number is past the greatest word, or the least one.
abbrev pub IsPast : Bool → ℤ → Type 0
IsPast true n = pos 9223372036854775807 <ℤ n
IsPast false n = n <ℤ negsuc 9223372036854775807

-- For this many turns, and at the next one, the guard holds of the variable, and then the step leads past the words.
abbrev pub WrapsAfter : Bool → ℤ → ℤ → ℕ → ℤ → Type 0
WrapsAfter up limit step zero now = (guard_value up limit now ≢ pos 0) × IsPast up (now +ℤ step)
WrapsAfter up limit step (suc turns) now =
    (guard_value up limit now ≢ pos 0) × WrapsAfter up limit step turns (now +ℤ step)

-- Turns that move the variable from this start by this step don't count to the limit, for this reason.
abbrev pub Uncounted : Reason → Bool → ℤ → ℤ → ℤ → Type 0
Uncounted Guard up limit step start = ⊥
Uncounted Start up limit step start = ⊥
Uncounted Step up limit step start = (guard_value up limit start ≢ pos 0) × LeadsAway up step
Uncounted Wraps up limit step start = (turns : ℕ) × WrapsAfter up limit step turns start

-- The guard compares this slot with a number that is known, but no number is known of the slot before the loop.
pub record HasNoStart (facts : List Known) (guard : Known) : Type 0 where
  pub up : Bool
  pub slot : ℕ
  pub limit : ℤ
  pub guarded : guard ≡ guard_of up slot limit
  pub unknown : (n : ℤ) → slice_get facts slot ≢ Some (Number n)

-- The guard compares a slot that begins with a number, and no turn is known to move the slot by a number.
pub record HasNoStep (facts : List Known) (guard : Known) (turned : List Known) : Type 0 where
  pub up : Bool
  pub slot : ℕ
  pub limit : ℤ
  pub start : ℤ
  pub guarded : guard ≡ guard_of up slot limit
  pub begins : slice_get facts slot ≡ Some (Number start)
  pub unmoved : (n : ℤ) → slice_get turned slot ≢ Some (Moved slot n)

-- The guard compares a slot that begins with a number and that each turn moves by a step, but the turns don't count to
-- the limit, for this reason.
pub record HasNoTurns (facts : List Known) (guard : Known) (turned : List Known) (reason : Reason) : Type 0 where
  pub up : Bool
  pub slot : ℕ
  pub limit : ℤ
  pub start : ℤ
  pub step : ℤ
  pub guarded : guard ≡ guard_of up slot limit
  pub begins : slice_get facts slot ≡ Some (Number start)
  pub moves : slice_get turned slot ≡ Some (Moved slot step)
  pub uncounted : Uncounted reason up limit step start

-- By the facts before a loop, about its guard and after a turn the loop has no counter, for this reason.
abbrev pub HasNoCounter : Reason → List Known → Known → List Known → Type 0
HasNoCounter Guard facts guard turned = (up : Bool) (slot : ℕ) (limit : ℤ) → guard ≢ guard_of up slot limit
HasNoCounter Start facts guard turned = HasNoStart facts guard
HasNoCounter Step facts guard turned = HasNoStep facts guard turned ⊎ HasNoTurns facts guard turned Step
HasNoCounter Wraps facts guard turned = HasNoTurns facts guard turned Wraps
