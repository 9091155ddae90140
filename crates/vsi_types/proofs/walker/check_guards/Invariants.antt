use Rattle.std.proofs.Common.{take, map}
use Rattle.vsi_syntax.specs.declared.token.Span.{Span}
use Rattle.vsi_types.specs.declared.rules.Guard.{Guard}
use Rattle.vsi_types.specs.Steps.{AreInOrder}
use Rattle.vsi_types.specs.Checking.{step_at}
use Rattle.vsi_types.specs.Security.{class_of}
use Rattle.vsi_types.proofs.walker.check_guards.Given as goal

abbrev pub invariant-loop-g : goal.invariant-loop-g
invariant-loop-g g l =
    let L = g.C.Classes.lattice l.lattice in
    (written : Guard → Span) → AreInOrder L (class_of L l.table)
    (map (step_at l.target written) (take l.g-index l.guards))
