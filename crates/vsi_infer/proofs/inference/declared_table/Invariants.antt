use Rattle.std.proofs.Common.{◌≡◌, ◌++◌, take, map, Some}
use Rattle.vsi_infer.proofs.inference.declared_table.Given as goal

abbrev pub invariant-loop-g : goal.invariant-loop-g
invariant-loop-g g l = l.table.items ≡ map (λ x. Some x.class) (take l.g-index l.g-items)

abbrev pub invariant-loop-e : goal.invariant-loop-e
invariant-loop-e g l = l.table.items ≡ l.initial.table.items ++ map (λ x. x.class) (take l.e-index l.e-items)
