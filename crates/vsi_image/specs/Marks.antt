-- Bits in a row of words, one for each instruction.
use Rattle.std.specs.Prelude.{◌≡◌, ℕ, ◌<◌, ◌/◌, ◌%◌, ◌==◌, List, length, Bool, Some, nat_eq, slice_index, slice_get}
use Rattle.std.specs.Int.{bit_at}
use Rattle.vsi_image.specs.declared.instr.Instr.{Instr}
use Rattle.vsi_image.specs.Effects.{depth_at, target_of}

-- The bit with a number in a row of words of 64 bits.
abbrev pub marked : List ℕ → ℕ → Bool
marked words k = nat_eq (bit_at (slice_index words (k / 64)) (k % 64)) 1

-- An instruction has a mark exactly if its depth is 0.
abbrev pub MarkDepths : List Instr → (ℕ → Bool) → Type 0
MarkDepths code marks = (k : ℕ) → k < length code → marks k ≡ (depth_at code k == 0)

-- Each target has a mark exactly if the depth there is 0.
abbrev pub AreMarked : List Instr → (ℕ → Bool) → Type 0
AreMarked code marks =
    (pc t : ℕ) (i : Instr) → slice_get code pc ≡ Some i → target_of i ≡ Some t
    → (t < 65536) × (marks t ≡ (depth_at code t == 0))
