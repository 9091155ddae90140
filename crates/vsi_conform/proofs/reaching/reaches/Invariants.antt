use Rattle.std.proofs.Common.{◌≡◌, drop, option_map}
use Rattle.vsi_conform.specs.Reaching as spec
use Rattle.vsi_conform.proofs.reaching.reaches.Given as goal

-- A remaining pair leads there exactly if one global reaches the other.
abbrev pub invariant-loop-pair : goal.invariant-loop-pair
invariant-loop-pair l =
    spec.has_pair (drop l.pair-index l.pair-items) l.source l.target
    ≡ spec.reaches (option_map (λ pairs. pairs.items) l.table) l.source l.target
