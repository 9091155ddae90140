use Rattle.std.proofs.Common.{◌≡◌, drop, map}
use Rattle.vsi_conform.specs.Reaching as spec
use Rattle.vsi_conform.proofs.reaching.are_within.Given as goal

-- The remaining outputs are within what is allowed exactly if all are.
abbrev pub invariant-loop-reach : goal.invariant-loop-reach
invariant-loop-reach l =
    spec.are_within (map spec.released (drop l.reach-index l.reaches)) ≡ spec.are_within (map spec.released l.reaches)
