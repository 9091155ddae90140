use Rattle.std.proofs.Common.{◌≡◌, drop}
use Rattle.vsi_conform.specs.Reading as spec
use Rattle.vsi_conform.proofs.keys.is_among.Given as goal

-- The key is among the remaining ones exactly if it is among all.
abbrev pub invariant-loop-allowed : goal.invariant-loop-allowed
invariant-loop-allowed l =
    spec.is_among (spec.shown (drop l.allowed-index l.keys)) l.key ≡ spec.is_among (spec.shown l.keys) l.key
