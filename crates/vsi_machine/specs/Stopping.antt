-- The meaning of the errors of the search.
use Rattle.std.specs.Prelude.{◌≡◌, ◌⊎◌, ℕ, ℤ, List}
use Rattle.vsi_machine.specs.declared.loops.Known.{Known}
use Rattle.vsi_machine.specs.declared.bound.Reason.{Reason}
use Rattle.vsi_machine.specs.declared.bound.Reason.TheVariants.{Step}
use Rattle.vsi_machine.specs.declared.bound.Stop.{Stop}
use Rattle.vsi_machine.specs.declared.bound.Stop.TheVariants.{Other, Endless}
use Rattle.vsi_machine.specs.Loops.{Keeps}
use Rattle.vsi_machine.specs.Looping.{IsCounter}
use Rattle.vsi_machine.specs.Reasons.{HasNoCounter}

-- This holds of the test and the reason, if the error has them.
abbrev pub OnEndless : (ℕ → Reason → Type 0) → Stop → Type 0
OnEndless P (Other fault) = Unit {0}
OnEndless P (Endless test reason) = P test reason

-- The loop whose test is at this place has no counter.
abbrev pub IsUncounted : List Known → Known → List Known → ℕ → ℕ → Reason → Type 0
IsUncounted facts guard turned place test reason = (place ≡ test) × HasNoCounter reason facts guard turned

-- A turn of that loop doesn't keep the numbers that are known at its start.
abbrev pub IsChanged : List Known → List Known → ℕ → ℕ → Reason → Type 0
IsChanged entry turned place test reason = (place ≡ test) × (reason ≡ Step) × (Keeps entry turned → ⊥)

-- The loop has a counter, but a turn doesn't keep the numbers.
pub record CountsChanged (facts entry : List Known) (guard : Known) (turned : List Known) (place test : ℕ)
    (reason : Reason) : Type 0 where
  pub slot : ℕ
  pub turns : ℕ
  pub last : ℤ
  pub counter : IsCounter facts guard turned slot turns last
  pub changed : IsChanged entry turned place test reason

-- One of both.
abbrev pub Unfinished : List Known → List Known → Known → List Known → ℕ → ℕ → Reason → Type 0
Unfinished facts entry guard turned place test reason =
    IsUncounted facts guard turned place test reason ⊎ CountsChanged facts entry guard turned place test reason
