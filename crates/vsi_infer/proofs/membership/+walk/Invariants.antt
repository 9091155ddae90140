use Rattle.std.proofs.Common.{take, max, ◌+◌, ◌*◌}
use denote.Param.Weighed.{most}
use Rattle.vsi_scope.proofs.program.Cmd.TheLaws.{the_size}
use Rattle.vsi_scope.specs.View.{sequence}
use Rattle.vsi_types.specs.Security.{name_place}
use Rattle.vsi_infer.specs.Membership.{IsPast, stand_of}
use Rattle.vsi_infer.proofs.membership.+walk.Given as goal

abbrev pub invariant-pass_commands-loop-c : goal.invariant-pass_commands-loop-c
invariant-pass_commands-loop-c l =
    IsPast l.step l.profile (name_place l.entries l.first) l.around (stand_of l.initial.cursor)
    (sequence (take l.c-index l.body)) (stand_of l.cursor) l.found

abbrev pub decreases-pass_if : goal.decreases-pass_if
decreases-pass_if l = 3 * max (most (λ x. the_size x) l.then_branch.now) (most (λ x. the_size x) l.else_branch.now) + 2

abbrev pub decreases-pass_command : goal.decreases-pass_command
decreases-pass_command l = 3 * the_size l.c.now

abbrev pub decreases-pass_commands : goal.decreases-pass_commands
decreases-pass_commands l = 3 * most (λ x. the_size x) l.body.now + 1

abbrev pub decreases-pass_while : goal.decreases-pass_while
decreases-pass_while l = 3 * most (λ x. the_size x) l.body.now + 2

abbrev pub decreases-pass_letvar : goal.decreases-pass_letvar
decreases-pass_letvar l = 3 * most (λ x. the_size x) l.body.now + 2
