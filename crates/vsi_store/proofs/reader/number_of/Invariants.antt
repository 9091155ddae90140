use Rattle.std.proofs.Common.{◌≡◌}
use Rattle.toml.specs.View.{members_view}
use Rattle.vsi_store.specs.File.{number_in}
use Rattle.vsi_store.proofs.reader.number_of.Given as goal

-- The number among the remaining keys is the number among all.
abbrev pub invariant-loop-key : goal.invariant-loop-key
invariant-loop-key l =
    number_in (members_view l.key-iterator) l.name ≡ number_in (members_view l.initial.key-iterator) l.name
