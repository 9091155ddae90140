-- The facts at each turn of a loop, and after it.
use Rattle.std.specs.Prelude.{◌≡◌, ◌≢◌, ℕ, ◌⊎◌, ℤ, List, Contains, length, slice_get, Some}
use Rattle.vsi_image.specs.declared.instr.Instr.{Instr}
use Rattle.vsi_image.specs.declared.instr.Instr.TheVariants.{Store}
use Rattle.vsi_machine.specs.declared.loops.Known.{Known}
use Rattle.vsi_machine.specs.declared.loops.Known.TheVariants.{Number, Same, Moved, Below, Above, Any}

-- At the start of a turn a slot has the number that it had before the loop, if the body doesn't store into it; else its
-- word is the one for comparison.
abbrev pub Enters : List Instr → List Known → ℕ → Known → Type 0
Enters body facts k (Number n) = (slice_get facts k ≡ Some (Number n)) × (Contains body (Store k) → ⊥)
Enters body facts k (Same j) = (j ≡ k) × ((n : ℤ) → slice_get facts k ≡ Some (Number n) → Contains body (Store k))
Enters body facts k (Moved j d) = ⊥
Enters body facts k (Below j n) = ⊥
Enters body facts k (Above j n) = ⊥
Enters body facts k Any = ⊥

-- Each slot has such a fact.
pub record IsEntry (body : List Instr) (facts entry : List Known) : Type 0 where
  pub count : length entry ≡ length facts
  pub each : (k : ℕ) (f : Known) → slice_get entry k ≡ Some f → Enters body facts k f

-- A turn keeps each number that is known at its start.
abbrev pub Keeps : List Known → List Known → Type 0
Keeps entry turned = (k : ℕ) (n : ℤ) → slice_get entry k ≡ Some (Number n) → slice_get turned k ≡ Some (Number n)

-- After the loop the variable has its last word, any other slot that a turn leaves as it was has its fact from before,
-- and nothing is known of the rest.
abbrev pub Remains : List Known → List Known → List Known → ℕ → ℤ → ℕ → Known → Type 0
Remains facts entry turned slot last k f =
    ((k ≡ slot) × (f ≡ Number last))
    ⊎ (((k ≢ slot) × (slice_get facts k ≡ Some f) × (slice_get entry k ≡ slice_get turned k))
    ⊎ ((k ≢ slot) × (f ≡ Any) × (slice_get entry k ≢ slice_get turned k)))

-- Each slot has such a fact.
pub record Remain (facts entry turned : List Known) (slot : ℕ) (last : ℤ) (left : List Known) : Type 0 where
  pub count : length left ≡ length facts
  pub each : (k : ℕ) (f : Known) → slice_get left k ≡ Some f → Remains facts entry turned slot last k f

-- Where two branches meet, a slot has the fact that both lists have of it, or nothing is known if they differ.
abbrev pub Meets : List Known → List Known → ℕ → Known → Type 0
Meets first second k f =
    ((slice_get first k ≡ Some f) × (slice_get second k ≡ Some f))
    ⊎ ((f ≡ Any) × (slice_get first k ≢ slice_get second k))

-- Each slot has such a fact.
pub record Joined (first second joined : List Known) : Type 0 where
  pub count : length joined ≡ length first
  pub each : (k : ℕ) (f : Known) → slice_get joined k ≡ Some f → Meets first second k f
