use Rattle.vsi_answers.specs.Judged.{IsTreeFault}
use Rattle.vsi_answers.proofs.Told.{source_told}
use Rattle.vsi_answers.proofs.texts.format.Goals as goal

pub returns-in-Err : goal.returns-in-Err
returns-in-Err c =
    let e = c.in-Err.ensures in
    record {
      formats = source_told (IsTreeFault c.args.source.now) c.args.lattice.now c.args.source.now c.in-Err.error
          (λ m. (e.refused, λ tree reads. m (e.exact tree reads))) c.refused_source.result c.refused_source.ensures;
    }
