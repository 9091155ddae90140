use Rattle.std.proofs.Common.{ℕ, ◌<◌}
use Rattle.std.specs.List.{slice_index_or}
use Rattle.vsi_layered.specs.declared.drawing.Place.{Place}
use Rattle.vsi_layered.specs.Drawing.{AreApart}
use Rattle.vsi_layered.proofs.drawing.is_apart_from_first.Given as goal

-- The box and each of the first ones have no point in common.
abbrev pub invariant-loop-other : goal.invariant-loop-other
invariant-loop-other l =
    (j : ℕ) (d : Place) → j < l.other
    → AreApart (slice_index_or l.places j d) (slice_index_or l.places l.place d)
