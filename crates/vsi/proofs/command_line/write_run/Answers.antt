use Rattle.std.proofs.Common.{◌<◌, Err, Ok, inr, subst}
use Rattle.std.specs.Prelude.{IfErr, IfOk}
use Rattle.std.proofs.lemmas.Result.{on_ok_weaker}
use Rattle.std.specs.Io.KnownBytes.{Appends}
use Rattle.vsi_answers.specs.Requests.{RunsSourceTo}
use Rattle.vsi_drive.specs.Counted.{device_of, faults_of}
use Rattle.vsi_subject.specs.Failures.{FailsFor, IsStreamFault}
use Rattle.vsi_subject.proofs.AnswerLemmas.{answered_told}
use Rattle.vsi_subject.proofs.Failed.{FailsFor-weaker, answered_failed}
use Rattle.vsi_subject.proofs.Reasons.{handed}
use Rattle.vsi_subject.proofs.Partly.{any_failure, kept_partly}
use Rattle.vsi.proofs.command_line.write_run.Goals as goal

pub returns-in_err-text-clause-failed : goal.returns-in_err-text-clause-failed
returns-in_err-text-clause-failed g c =
    let runs = RunsSourceTo c.args.lattice.now c.args.source.now 1000000 in
    let output = c.args.output.now in
    let stream = IsStreamFault (faults_of output < faults_of output) in
    handed (FailsFor (λ reason. runs (Err reason)) stream) c.in_err-text.field-0.0 c.from_residual.result
    c.from_residual.ensures.1
    (FailsFor-weaker (λ reason. runs (Err reason)) (λ reason. runs (Err reason)) (λ path. ⊥) stream
    (λ reason is. is) (λ path none. absurd none) c.in_err-text.field-0.0
    (subst (λ r. IfErr r (FailsFor (λ reason. runs (Err reason)) (λ path. ⊥))) c.in_err-text.was
    (answered_failed runs c.run_source-answer.result c.answered.result c.answered.ensures
    c.run_source-answer.ensures.runs)))

pub returns-clause-ran : goal.returns-clause-ran
returns-clause-ran g c =
    let runs = RunsSourceTo c.args.lattice.now c.args.source.now 1000000 in
    on_ok_weaker c.write.result
    (λ written. record {
      text = c.in_ok-text.text;
      ran = subst (λ r. IfOk r (λ text. runs (Ok text))) c.in_ok-text.was
          (answered_told runs c.run_source-answer.result c.answered.result c.answered.ensures
          c.run_source-answer.ensures.runs);
      written = subst (Appends (g.W.Write.contents (device_of c.args.output.now))
          (g.W.Write.contents (device_of c.write.new.output))) c.as_slice.ensures.value written;
    })
    c.write.ensures.whole

pub returns-in_err-text-clause-partly : goal.returns-in_err-text-clause-partly
returns-in_err-text-clause-partly g c = any_failure _ c.from_residual.result (kept_partly _ _)

pub returns-clause-partly : goal.returns-clause-partly
returns-clause-partly g c =
    let runs = RunsSourceTo c.args.lattice.now c.args.source.now 1000000 in
    let ran = subst (λ r. IfOk r (λ text. runs (Ok text))) c.in_ok-text.was
    (answered_told runs c.run_source-answer.result c.answered.result c.answered.ensures
    c.run_source-answer.ensures.runs) in
    any_failure _ c.write.result
    (inr (
      c.as_slice.result.now,
      (c.in_ok-text.text, ran, c.as_slice.ensures.value),
      c.write.ensures.part,
    ))
