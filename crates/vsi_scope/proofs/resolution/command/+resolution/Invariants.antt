use Rattle.std.proofs.Common.{drop, ◌+◌, ◌*◌}
use Rattle.vsi_syntax.specs.CommandView as syntax
use Rattle.vsi_lattice.specs.LatticeView.{class_named}
use Rattle.vsi_scope.proofs.Midway.{Midway}
use Rattle.vsi_scope.proofs.Weights.{weight, all_weight}
use Rattle.vsi_scope.proofs.resolution.command.+resolution.Given as goal

abbrev pub decreases-local : goal.decreases-local
decreases-local l = 2 * (1 + weight (syntax.command l.c.now))

abbrev pub decreases-sequence : goal.decreases-sequence
decreases-sequence l = 2 * all_weight (syntax.body_of l.body.now) + 2

abbrev pub decreases-statement : goal.decreases-statement
decreases-statement l = 2 * weight (syntax.command l.c.now) + 1

abbrev pub invariant-sequence-loop-c : goal.invariant-sequence-loop-c
invariant-sequence-loop-c l =
    Midway (class_named l.lattice) l.initial.resolver l.resolver l.initial.out.items l.out.items l.body
    (drop l.c-index l.body)
