use Rattle.std.proofs.Common.{◌+◌, ◌*◌}
use Rattle.vsi_machine.specs.Search.{Reaches}
use Rattle.vsi_machine.specs.Stretch.{Leads}
use Rattle.vsi_machine.proofs.stretches.+stretches.Given as goal

abbrev pub invariant-stretch-loop-turn : goal.invariant-stretch-loop-turn
invariant-stretch-loop-turn l = record {
  leads : Leads l.code l.fn.facts l.from l.place l.cost l.facts;
  reaches : Reaches l.code l.fn.facts l.from l.place l.facts;
}

abbrev pub decreases-stretch : goal.decreases-stretch
decreases-stretch l = 4 * l.room + 3

abbrev pub decreases-command : goal.decreases-command
decreases-command l = 4 * l.room + 2

abbrev pub decreases-branches : goal.decreases-branches
decreases-branches l = 4 * l.room + 4

abbrev pub decreases-turns : goal.decreases-turns
decreases-turns l = 4 * l.room + 4
