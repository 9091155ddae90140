use Rattle.std.proofs.Common.{map}
use Rattle.vsi_types.specs.Security.{program}
use Rattle.vsi_infer.specs.FlowRows.{flow_has}
use Rattle.vsi_flows.proofs.RowLemmas.{within_last, rows_of_program}
use Rattle.vsi_flows.proofs.rows.program_rows.Goals as goal

pub rows_of-requires-clause-within : goal.rows_of-requires-clause-within
rows_of-requires-clause-within g c =
    within_last c.args.profile (program c.args.program.now) _ c.in_ok-flow.ensures c.declarations-last.result
    c.declarations-last.ensures.count

pub returns : goal.returns
returns g c =
    let L = g.C.Classes.lattice c.args.lattice.now in
    rows_of_program L c.args.profile (program c.args.program.now)
    (λ a b. flow_has c.in_ok-flow.flow.rows.items b a) c.in_ok-flow.ensures c.declarations-last.result
    c.declarations-last.ensures.count (λ rows. map (λ r. r.items) rows.items) c.rows_of.result c.rows_of.ensures
