use Rattle.std.proofs.Common.{All, List, map, take}
use Rattle.std.specs.List.{Contains}
use Rattle.vsi_types.specs.declared.rules.Step.{Step}
use Rattle.vsi_flows.specs.Walks.{FindWalks}
use Rattle.vsi_flows.proofs.rows.found_in.Given as goal

abbrev pub invariant-loop-row : goal.invariant-loop-row
invariant-loop-row l =
    (ss : List Step) → All (Contains ss) l.known.steps.items
    → FindWalks ss l.last (map (λ r. r.items) (take l.row-index l.rows)) l.found.items
