use Rattle.std.proofs.Common.{◌≡◌, take, max, ◌+◌, ◌*◌}
use denote.Param.Weighed.{most}
use Rattle.vsi_scope.proofs.program.Cmd.TheLaws.{the_size}
use Rattle.vsi_scope.specs.Language.{has_loop}
use Rattle.vsi_scope.specs.View.{sequence}
use Rattle.vsi_types.specs.Security.{name_place}
use Rattle.vsi_types.specs.Walker.{walker_place}
use Rattle.vsi_infer.specs.FirstSteps.{IsGathered, kept_of}
use Rattle.vsi_infer.proofs.gathering.+walk.Given as goal

abbrev pub invariant-gather_commands-loop-c : goal.invariant-gather_commands-loop-c
invariant-gather_commands-loop-c g l = record {
  loops : l.looping ≡ has_loop (sequence (take l.c-index l.body));
  gathered : IsGathered (g.W.Wanted.wants l.wanted) l.profile (name_place l.entries l.first)
      (walker_place l.initial.walk) (kept_of l.initial.log) (sequence (take l.c-index l.body)) (walker_place l.walk)
      (kept_of l.log);
}

abbrev pub decreases-gather_if : goal.decreases-gather_if
decreases-gather_if g l = 3 * max (most (λ x. the_size x) l.then_branch.now)
    (most (λ x. the_size x) l.else_branch.now) + 2

abbrev pub decreases-gather_command : goal.decreases-gather_command
decreases-gather_command g l = 3 * the_size l.c.now

abbrev pub decreases-gather_commands : goal.decreases-gather_commands
decreases-gather_commands g l = 3 * most (λ x. the_size x) l.body.now + 1

abbrev pub decreases-gather_while : goal.decreases-gather_while
decreases-gather_while g l = 3 * most (λ x. the_size x) l.body.now + 2

abbrev pub decreases-gather_letvar : goal.decreases-gather_letvar
decreases-gather_letvar g l = 3 * most (λ x. the_size x) l.body.now + 2
