use Rattle.std.proofs.Common.{◌≡◌, ◌++◌, option_map}
use Rattle.toml.specs.View.{members_view}
use Rattle.vsi_conform.specs.Points.{entries}
use Rattle.vsi_conform.specs.Reading as spec
use Rattle.vsi_conform.proofs.keys.numbers_of.Given as goal

-- The entries found so far and those of the rest are all entries.
abbrev pub invariant-loop-key : goal.invariant-loop-key
invariant-loop-key l =
    spec.numbers_of (members_view l.initial.key-iterator)
    ≡ option_map (λ rest. entries l.found.items ++ rest) (spec.numbers_of (members_view l.key-iterator))
