use Rattle.std.proofs.Common.{◌≡◌, take, max, ◌+◌, ◌*◌}
use denote.Param.Weighed.{most}
use Rattle.vsi_scope.proofs.program.Cmd.TheLaws.{the_size}
use Rattle.vsi_scope.specs.Language.{has_loop}
use Rattle.vsi_scope.specs.View.{sequence}
use Rattle.vsi_infer.specs.Leading.{row_reads, IsNoted, position_of}
use Rattle.vsi_infer.proofs.flows.+walk.Given as goal

abbrev pub invariant-note_commands-loop-c : goal.invariant-note_commands-loop-c
invariant-note_commands-loop-c l = record {
  loops : l.looping ≡ has_loop (sequence (take l.c-index l.body));
  noted : IsNoted l.filter l.profile l.sink (row_reads l.around) (position_of l.initial.walk) (sequence
      (take l.c-index l.body)) (position_of l.walk);
}

abbrev pub decreases-note_if : goal.decreases-note_if
decreases-note_if l = 3 * max (most (λ x. the_size x) l.then_branch.now) (most (λ x. the_size x) l.else_branch.now) + 2

abbrev pub decreases-note_command : goal.decreases-note_command
decreases-note_command l = 3 * the_size l.c.now

abbrev pub decreases-note_commands : goal.decreases-note_commands
decreases-note_commands l = 3 * most (λ x. the_size x) l.body.now + 1

abbrev pub decreases-note_while : goal.decreases-note_while
decreases-note_while l = 3 * most (λ x. the_size x) l.body.now + 2

abbrev pub decreases-note_letvar : goal.decreases-note_letvar
decreases-note_letvar l = 3 * most (λ x. the_size x) l.body.now + 2
