use Rattle.std.proofs.Common.{◌≡◌, take, map}
use Rattle.vsi_types.proofs.rules.class_table.Given as goal

abbrev pub invariant-loop-g : goal.invariant-loop-g
invariant-loop-g l = l.table.items ≡ map (λ g. g.class) (take l.g-index l.globals)
