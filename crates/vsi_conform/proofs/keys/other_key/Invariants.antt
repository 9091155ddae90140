use Rattle.std.proofs.Common.{◌≡◌}
use Rattle.toml.specs.View.{members_view}
use Rattle.vsi_conform.specs.Reading as spec
use Rattle.vsi_conform.proofs.keys.other_key.Given as goal

-- The table has only allowed keys exactly if the rest of it has.
abbrev pub invariant-loop-key : goal.invariant-loop-key
invariant-loop-key l =
    spec.has_keys (spec.shown l.keys) (members_view l.initial.key-iterator)
    ≡ spec.has_keys (spec.shown l.keys) (members_view l.key-iterator)
