use Rattle.std.proofs.Common.{ℕ, ◌<◌}
use Rattle.std.specs.List.{slice_index_or}
use Rattle.vsi_layered.specs.declared.drawing.Node.{Node}
use Rattle.vsi_layered.specs.declared.drawing.Place.{Place}
use Rattle.vsi_layered.specs.Drawing.{HasSize, IsWithin}
use Rattle.vsi_layered.proofs.drawing.are_all_placed.Given as goal

-- Each of the first nodes has a box of its size, within the box of its group.
abbrev pub invariant-loop-node : goal.invariant-loop-node
invariant-loop-node l =
    ((k : ℕ) (n : Node) (d : Place) → k < l.node → HasSize (slice_index_or l.nodes k n) (slice_index_or l.places k d))
    × ((k : ℕ) (n : Node) (d : Place) → k < l.node
    → IsWithin (slice_index_or l.places k d) (slice_index_or l.groups (slice_index_or l.nodes k n).group d))
