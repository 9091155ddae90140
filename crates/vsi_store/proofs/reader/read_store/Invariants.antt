use Rattle.std.proofs.Common.{◌≡◌, take}
use Rattle.toml.specs.View.{table_view, members_view}
use Rattle.vsi_image.specs.Fields.{globals}
use Rattle.vsi_store.specs.File.{store_fault, store_of}
use Rattle.vsi_store.proofs.reader.read_store.Given as goal

-- The first fault among the remaining keys is the first fault of all.
abbrev pub invariant-loop-key : goal.invariant-loop-key
invariant-loop-key l =
    store_fault (globals l.variables) (members_view l.key-iterator)
    ≡ store_fault (globals l.variables) (members_view l.initial.key-iterator)

abbrev pub invariant-loop-variable : goal.invariant-loop-variable
invariant-loop-variable l =
    l.words.items ≡ store_of (globals (take l.variable-index l.variables)) (table_view l.table)
