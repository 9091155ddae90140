use Rattle.std.proofs.Common.{◌≡◌}
use Rattle.vsi_answers.specs.Answers.{Because}
use Rattle.vsi_answers.specs.Judged.{IsProgramFault, TellsSource}
use Rattle.vsi_subject.specs.Refusals.{NoOther}
use Rattle.vsi_subject.proofs.Reasons.{fails_by}
use Rattle.vsi_subject.proofs.RefusalLemmas.{tells_program}
use Rattle.vsi_requests.proofs.stepping.source_in.Goals as goal

pub returns-in-Err-clause-failed : goal.returns-in-Err-clause-failed
returns-in-Err-clause-failed c =
    let l = c.args.lattice.now in
    let text = c.args.text.now in
    fails_by (Because (TellsSource (λ e. e ≡ c.in-Err.error) l text) ⊥)
    (Because (TellsSource (IsProgramFault l text) l text) ⊥) NoOther
    (tells_program l text c.in-Err.error c.in-Err.ensures.refused
    (λ program. c.in-Err.ensures.exact program.tree program.commands program.reads program.resolution))
    c.refused.result c.refused.ensures
