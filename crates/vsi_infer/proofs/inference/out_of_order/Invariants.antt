use Rattle.std.proofs.Common.{◌<◌, ℕ, length}
use Rattle.vsi_infer.specs.Choices.{IsInOrder}
use Rattle.vsi_infer.proofs.inference.out_of_order.Given as goal

abbrev pub invariant-loop-a : goal.invariant-loop-a
invariant-loop-a g l = (x y : ℕ) → x < l.a → y < length l.choice
    → IsInOrder (g.C.Classes.lattice l.lattice).leq (g.F.Flow.flows l.flow) l.choice x y

abbrev pub invariant-loop-b : goal.invariant-loop-b
invariant-loop-b g l = (y : ℕ) → y < l.b → IsInOrder (g.C.Classes.lattice l.lattice).leq
    (g.F.Flow.flows l.flow) l.choice l.a y
