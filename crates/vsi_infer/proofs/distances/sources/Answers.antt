use Rattle.std.proofs.Common.{◌||◌, ap, ◌∙◌, refl}
use Rattle.vsi_infer.specs.FlowRows.{flow_has}
use Rattle.vsi_infer.proofs.RowsOf.{all_zero}
use Rattle.vsi_infer.proofs.distances.sources.Goals as goal

pub returns : goal.returns
returns c = λ v.
    c.note_row.ensures.bits v 0
    ∙ ap (λ t. t || flow_has c.args.rows.now c.args.place v) (all_zero 16 _ refl v 0)
