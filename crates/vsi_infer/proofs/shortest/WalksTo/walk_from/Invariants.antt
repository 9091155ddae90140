use Rattle.std.proofs.Common.{◌≡◌, ◌+◌, ◌<◌, length, get_or}
use Rattle.vsi_types.specs.Security.{program, steps_of}
use Rattle.vsi_infer.specs.Paths.{IsPath}
use Rattle.vsi_infer.specs.Shortest.{row_of}
use Rattle.vsi_infer.proofs.shortest.WalksTo.walk_from.Given as goal

abbrev pub invariant-loop-left : goal.invariant-loop-left
invariant-loop-left l = record {
  level : get_or l.self.row.now (row_of l.self.last l.at) 0 ≡ l.left;
  small : l.left < 65535;
  path : IsPath (steps_of l.profile (program l.program)) l.fn.from l.steps.items l.at;
  size : length l.steps.items + l.left ≡ l.count;
}

abbrev pub decreases-loop-left : goal.decreases-loop-left
decreases-loop-left l = l.left
