use Rattle.std.proofs.Common.{drop, length, ◌+◌, ◌*◌, ◌-◌}
use denote.Param.Weighed.{most}
use Rattle.vsi_scope.proofs.program.Cmd.TheLaws.{the_size}
use Rattle.vsi_scope.specs.Language.{While}
use Rattle.vsi_scope.specs.View.{expression, sequence}
use Rattle.vsi_steps.specs.Ran.{past}
use Rattle.vsi_steps.proofs.Running.{Leads}
use Rattle.vsi_steps.proofs.run.+run.Given as goal

abbrev pub invariant-run_all-loop-c : goal.invariant-run_all-loop-c
invariant-run_all-loop-c l =
    Leads l.site (sequence l.body) (past l.initial.run) l.next (sequence (drop l.c-index l.body)) (past l.run)

abbrev pub invariant-run_while-loop-word : goal.invariant-run_while-loop-word
invariant-run_while-loop-word l =
    Leads l.site (While (expression l.e) (sequence l.body)) (past l.initial.run)
    l.site (While (expression l.e) (sequence l.body)) (past l.run)

abbrev pub decreases-run_while-loop-word : goal.decreases-run_while-loop-word
decreases-run_while-loop-word l = l.run.limit - length l.run.steps.items

abbrev pub decreases-run_one : goal.decreases-run_one
decreases-run_one l = 3 * the_size l.c.now

abbrev pub decreases-run_all : goal.decreases-run_all
decreases-run_all l = 3 * most (λ x. the_size x) l.body.now + 1

abbrev pub decreases-run_while : goal.decreases-run_while
decreases-run_while l = 3 * most (λ x. the_size x) l.body.now + 2
