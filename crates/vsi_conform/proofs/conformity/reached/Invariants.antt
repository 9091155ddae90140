use Rattle.std.proofs.Common.{◌≡◌, ◌++◌, drop, map}
use Rattle.serde_json.specs.View.{view}
use Rattle.vsi_conform.specs.Conformity.{reached}
use Rattle.vsi_conform.specs.Reaching.{released}
use Rattle.vsi_conform.proofs.conformity.reached.Given as goal

-- The objects so far and those of the remaining outputs are all objects.
abbrev pub invariant-loop-reach : goal.invariant-loop-reach
invariant-loop-reach l =
    map view l.made ++ reached (map released (drop l.reach-index l.reaches)) ≡ reached (map released l.reaches)
