use Rattle.std.proofs.Common.{◌≡◌, map, take}
use Rattle.toml.specs.View.{table_view}
use Rattle.vsi_image.specs.Fields.{globals}
use Rattle.vsi_store.specs.File.{has_key}
use Rattle.vsi_store.proofs.reader.named_globals.Given as goal

-- The list says for each global so far whether it has a key.
abbrev pub invariant-loop-variable : goal.invariant-loop-variable
invariant-loop-variable l =
    l.named.items ≡ map (λ g. has_key (table_view l.table) g.0) (globals (take l.variable-index l.variables))
