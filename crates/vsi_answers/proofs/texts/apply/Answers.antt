use Rattle.vsi_answers.proofs.texts.apply.Goals as goal

pub returns-in-Err : goal.returns-in-Err
returns-in-Err c = record { applies = c.unraised.ensures c.args.profile c.in-Err.ensures.refused }
