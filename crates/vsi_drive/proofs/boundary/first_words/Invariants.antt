use Rattle.std.proofs.Common.{◌≡◌, drop}
use Rattle.vsi_drive.specs.Starts.{first_unnamed}
use Rattle.vsi_drive.proofs.boundary.first_words.Given as goal

-- The first among the remaining globals is the first of all.
abbrev pub invariant-loop-i : goal.invariant-loop-i
invariant-loop-i l = first_unnamed l.i (drop l.i l.is_named-items) ≡ first_unnamed 0 l.is_named-items
