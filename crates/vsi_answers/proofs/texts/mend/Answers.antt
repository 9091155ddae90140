use Rattle.vsi_flows.specs.Answers.{RefusesRaise}
use Rattle.vsi_answers.proofs.Told.{source_told}
use Rattle.vsi_answers.proofs.texts.mend.Goals as goal

pub returns-in-Err : goal.returns-in-Err
returns-in-Err c =
    let l = c.args.lattice.now in
    let source = c.args.source.now in
    record {
      mends = source_told (RefusesRaise l c.args.profile source) l source c.in-Err.error
          (λ other. c.in-Err.ensures.refused) c.refused_source.result c.refused_source.ensures;
    }
