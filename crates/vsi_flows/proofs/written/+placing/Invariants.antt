use Rattle.std.proofs.Common.{◌≡◌, ◌++◌, ◌+◌, ◌*◌, drop}
use Rattle.vsi_syntax.specs.CommandView.{command, body_of}
use Rattle.vsi_syntax.specs.Tree.{command_depth, body_depth}
use Rattle.vsi_flows.specs.Places.{all_class_places}
use Rattle.vsi_flows.proofs.written.+placing.Given as goal

-- The places so far and those of what is left are all places.
abbrev pub invariant-put_all-loop-statement : goal.invariant-put_all-loop-statement
invariant-put_all-loop-statement l =
    l.places.items ++ all_class_places (body_of (drop l.statement-index l.body))
    ≡ l.fn.places.items ++ all_class_places (body_of l.body)

abbrev pub decreases-put_all : goal.decreases-put_all
decreases-put_all l = 2 * body_depth (body_of l.body.now) + 1

abbrev pub decreases-put_each : goal.decreases-put_each
decreases-put_each l = 2 * command_depth (command l.statement.now)
