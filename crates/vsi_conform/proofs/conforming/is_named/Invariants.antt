use Rattle.std.proofs.Common.{◌≡◌, drop}
use Rattle.vsi_image.specs.Fields.{globals, is_taken}
use Rattle.vsi_conform.proofs.conforming.is_named.Given as goal

-- The name is among the remaining globals exactly if it is among all.
abbrev pub invariant-loop-variable : goal.invariant-loop-variable
invariant-loop-variable l =
    is_taken (globals (drop l.variable-index l.variables)) l.name ≡ is_taken (globals l.variables) l.name
