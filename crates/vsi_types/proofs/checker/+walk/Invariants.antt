use Rattle.std.proofs.Common.{◌+◌, ◌*◌}
use denote.Param.Weighed.{most}
use Rattle.vsi_scope.proofs.program.Cmd.TheLaws.{the_size}
use Rattle.vsi_types.specs.Security.{class_of}
use Rattle.vsi_types.specs.Walker.{walker_place}
use Rattle.vsi_types.proofs.Places.{Reached}
use Rattle.vsi_types.proofs.checker.+walk.Given as goal

abbrev pub invariant-check_commands-loop-c : goal.invariant-check_commands-loop-c
invariant-check_commands-loop-c g l =
    let L = g.C.Classes.lattice l.lattice in
    Reached L l.profile (class_of L l.table) (walker_place l.initial.walk) l.body l.c-index (walker_place l.walk)

abbrev pub decreases-check_command : goal.decreases-check_command
decreases-check_command g l = 3 * the_size l.c.now

abbrev pub decreases-check_commands : goal.decreases-check_commands
decreases-check_commands g l = 3 * most (λ x. the_size x) l.body.now + 1
