-- The step after an expression, as it is found in the code; used only in proofs.
use Rattle.std.specs.Prelude.{◌≡◌, ℕ, ◌+◌, ◌<◌, List, slice_get, Some}
use Rattle.vsi_image.specs.declared.instr.Instr.{Instr}
use Rattle.vsi_image.specs.declared.instr.Instr.TheVariants as i
use Rattle.vsi_audit.specs.Reading.{Goes}
use Rattle.vsi_audit.specs.declared.lasting.Step.{Step}
use Rattle.vsi_audit.specs.declared.lasting.Step.TheVariants as step

-- The code has this step at a place.
abbrev pub IsStep : List Instr → ℕ → ℕ → ℕ → ℕ → Step → Type 0
IsStep code limit stop scope blocks (step.Assign l) = (slice_get code stop ≡ Some (i.Store l)) × (l < scope)
IsStep code limit stop scope blocks step.Letvar = (slice_get code stop ≡ Some (i.Store scope)) × (scope < limit)
IsStep code limit stop scope blocks (step.Part jump join) =
    (slice_get code stop ≡ Some (i.Jz (jump + 1))) × (slice_get code jump ≡ Some (i.Jmp join)) × (0 < blocks)
IsStep code limit stop scope blocks step.Stuck =
    (from to n : ℕ) → Goes code limit from stop to scope blocks n → ⊥
