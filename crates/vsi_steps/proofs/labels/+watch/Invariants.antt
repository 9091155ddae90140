use Rattle.std.proofs.Common.{drop, ◌+◌, ◌*◌}
use denote.Param.Weighed.{most}
use Rattle.vsi_scope.proofs.program.Cmd.TheLaws.{the_size}
use Rattle.vsi_scope.specs.Language.{While}
use Rattle.vsi_scope.specs.View.{expression, sequence}
use Rattle.vsi_types.specs.Security.{class_of}
use Rattle.vsi_steps.specs.Labels.{labelling}
use Rattle.vsi_steps.specs.Watched.{held}
use Rattle.vsi_steps.proofs.Watching.{Leads}
use Rattle.vsi_steps.proofs.labels.+watch.Given as goal

abbrev pub invariant-run_all-loop-c : goal.invariant-run_all-loop-c
invariant-run_all-loop-c g l =
    let L = labelling l.rule (g.C.Classes.lattice l.lattice) in
    Leads l.rule L (class_of L l.classes) l.classes l.counter l.first (sequence l.body)
    (held l.initial.state) l.counter l.next (sequence (drop l.c-index l.body)) (held l.state)

abbrev pub invariant-run_while-loop-state : goal.invariant-run_while-loop-state
invariant-run_while-loop-state g l =
    let L = labelling l.rule (g.C.Classes.lattice l.lattice) in
    let loop = While (expression l.e) (sequence l.body) in
    Leads l.rule L (class_of L l.classes) l.classes l.fn.counter l.next loop
    (held l.initial.state) l.inside l.next loop (held l.state)

abbrev pub decreases-run_while-loop-state : goal.decreases-run_while-loop-state
decreases-run_while-loop-state g l = l.state.left

abbrev pub decreases-run_one : goal.decreases-run_one
decreases-run_one g l = 3 * the_size l.c.now

abbrev pub decreases-run_all : goal.decreases-run_all
decreases-run_all g l = 3 * most (λ x. the_size x) l.body.now + 1

abbrev pub decreases-run_while : goal.decreases-run_while
decreases-run_while g l = 3 * most (λ x. the_size x) l.body.now + 2

abbrev pub decreases-run_letvar : goal.decreases-run_letvar
decreases-run_letvar g l = 3 * most (λ x. the_size x) l.body.now + 2
