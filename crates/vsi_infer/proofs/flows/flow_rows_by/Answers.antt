use Rattle.vsi_types.specs.Security.{program}
use Rattle.vsi_infer.specs.FlowRows.{flow_has}
use Rattle.vsi_infer.proofs.RowsOf.{rows_by}
use Rattle.vsi_infer.proofs.flows.flow_rows_by.Goals as goal

pub returns : goal.returns
returns c = rows_by c.args.rule c.args.profile (program c.args.program.now) (λ f a b. flow_has f.rows.items b a)
    c.taken_rows.result c.taken_rows.ensures
