use Rattle.std.proofs.Common.{◌≡◌, map, take}
use Rattle.vsi_requests.proofs.choices.class_table.Given as goal

-- The table has the class of each global so far.
abbrev pub invariant-loop-global : goal.invariant-loop-global
invariant-loop-global l = l.table.items ≡ map (λ g. g.class) (take l.global-index l.global-items)
