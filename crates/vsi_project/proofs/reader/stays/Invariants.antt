use Rattle.std.proofs.Common.{◌≡◌, ◌≤◌, ◌==◌, Some, drop}
use Rattle.std.specs.List.{slice_split}
use Rattle.vsi_project.specs.Paths as paths
use Rattle.vsi_project.proofs.Parts.{HasNoSlash}
use Rattle.vsi_project.proofs.reader.stays.Given as goal

-- The parts from the last slash on lead on from where the earlier ones lead.
abbrev pub invariant-loop-i : goal.invariant-loop-i
invariant-loop-i l =
    (l.start ≤ l.i) × HasNoSlash l.path l.start l.i
    × (paths.reached (Some l.depth) (slice_split (λ b. b == 47) (drop l.start l.path))
    ≡ paths.reached (Some 0) (slice_split (λ b. b == 47) l.path))
