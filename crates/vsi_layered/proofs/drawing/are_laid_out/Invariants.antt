use Rattle.std.proofs.Common.{ℕ, ◌<◌}
use Rattle.std.specs.List.{slice_index_or}
use Rattle.vsi_layered.specs.declared.drawing.Place.{Place}
use Rattle.vsi_layered.specs.Drawing.{AreApart, IsWithin}
use Rattle.vsi_layered.proofs.drawing.are_laid_out.Given as goal

-- Each of the first boxes is within the frame, and no two of them have a point in common.
abbrev pub invariant-loop-place : goal.invariant-loop-place
invariant-loop-place l =
    ((k : ℕ) (d : Place) → k < l.place → IsWithin (slice_index_or l.places k d) l.frame)
    × ((j k : ℕ) (d : Place) → j < k → k < l.place
    → AreApart (slice_index_or l.places j d) (slice_index_or l.places k d))
