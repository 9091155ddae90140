use Rattle.std.proofs.Common.{◌≡◌, drop}
use Rattle.vsi_image.specs.Fields.{globals}
use Rattle.vsi_store.specs.File.{has_name}
use Rattle.vsi_store.proofs.reader.is_global.Given as goal

-- The name is among the remaining globals if it is among all.
abbrev pub invariant-loop-variable : goal.invariant-loop-variable
invariant-loop-variable l =
    has_name (globals (drop l.variable-index l.variables)) l.key ≡ has_name (globals l.variables) l.key
