use Rattle.std.proofs.Common.{◌≡◌}
use Rattle.toml.specs.View.{members_view}
use Rattle.vsi_store.specs.File as spec
use Rattle.vsi_store.proofs.reader.has_key.Given as goal

-- The key is among the remaining keys if it is among all.
abbrev pub invariant-loop-key : goal.invariant-loop-key
invariant-loop-key l =
    spec.has_key (members_view l.key-iterator) l.name ≡ spec.has_key (members_view l.initial.key-iterator) l.name
