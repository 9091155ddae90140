-- Stretches of code, with their cost and the facts after them.
use Rattle.std.specs.Prelude.{◌≡◌, ℕ, ◌+◌, ◌^◌, ◌<◌, ◌≤◌, ℤ, List, [], ◌∷◌, length, slice_get, slice_set, Some}
use Rattle.vsi_image.specs.declared.instr.Instr.{Instr}
use Rattle.vsi_image.specs.declared.instr.Instr.TheVariants.{Jz, Jmp, Halt}
use Rattle.vsi_machine.specs.declared.bound.Test.{Test}
use Rattle.vsi_image.specs.Meaning.{after, going}
use Rattle.vsi_machine.specs.declared.loops.Known.{Known}
use Rattle.vsi_machine.specs.declared.bound.Cost.{Cost}
use Rattle.vsi_machine.specs.Known.{Means, Hold}

-- From these slots at a position the code reaches another position within the cost, and the facts hold there.
pub record Comes (code : List Instr) (m now : List ℤ) (from to : ℕ) (cost : Cost) (facts : List Known) : Type 0 where
  pub steps : ℕ
  pub enough : cost.least ≤ steps
  pub few : steps ≤ cost.most
  pub last : List ℤ
  pub reached : after code steps (going from [] now) ≡ Some (going to [] last)
  pub hold : Hold m facts last

-- It does so from all slots for which these facts hold.
abbrev pub Leads : List Instr → List Known → ℕ → ℕ → Cost → List Known → Type 0
Leads code facts from to cost after = (m now : List ℤ) → Hold m facts now → Comes code m now from to cost after

-- From these slots an expression's code reaches its end with one operand, for which this fact holds.
pub record Gives (code : List Instr) (m now : List ℤ) (from to : ℕ) (value : Known) : Type 0 where
  pub steps : ℕ
  pub count : from + steps ≡ to
  pub operand : ℤ
  pub reached : after code steps (going from [] now) ≡ Some (going to (operand ∷ []) now)
  pub means : Means m value operand

-- It does so from all slots for which these facts hold.
abbrev pub Evaluates : List Instr → List Known → ℕ → ℕ → Known → Type 0
Evaluates code facts from to value = (m now : List ℤ) → Hold m facts now → Gives code m now from to value

-- A test and the jump before its target, both of which are in the code.
pub record IsTest (code : List Instr) (t : Test) : Type 0 where
  pub tests : slice_get code t.place ≡ Some (Jz t.target)
  pub jumps : slice_get code t.jump ≡ Some (Jmp t.end)
  pub next : t.jump + 1 ≡ t.target
  pub within : t.place < t.jump
  pub order : t.start ≤ t.place
  pub short : t.target < 2 ^ 32

-- A slot now has this fact, and the others keep theirs.
abbrev pub Stores : ℕ → Known → List Known → List Known → Type 0
Stores slot value facts left = (slot < length facts) × (left ≡ slice_set facts slot value)

-- The code leads from its start, with any words in this many slots, to a HALT within one instruction less than the
-- cost.
pub record Finishes (code : List Instr) (now : List ℤ) (cost : Cost) : Type 0 where
  pub steps : ℕ
  pub enough : cost.least ≤ steps + 1
  pub few : steps + 1 ≤ cost.most
  pub place : ℕ
  pub last : List ℤ
  pub reached : after code steps (going 0 [] now) ≡ Some (going place [] last)
  pub halts : slice_get code place ≡ Some Halt

-- It does so with any words in this many slots.
abbrev pub Ends : List Instr → ℕ → Cost → Type 0
Ends code slots cost = (now : List ℤ) → length now ≡ slots → Finishes code now cost
