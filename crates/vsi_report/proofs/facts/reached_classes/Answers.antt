use Rattle.vsi_types.specs.Security.{program}
use Rattle.vsi_flows.proofs.RowLemmas.{within_last}
use Rattle.vsi_report.proofs.facts.reached_classes.Goals as goal

pub fewest_flows-requires-clause-within : goal.fewest_flows-requires-clause-within
fewest_flows-requires-clause-within c =
    within_last c.args.profile (program c.args.program.now) _ c.in_ok-flow.ensures c.declarations-count.result
    c.declarations-count.ensures.count
