use Rattle.std.proofs.Common.{Ok, Err, inl, inr, subst}
use Rattle.std.specs.Prelude.{IfErr, IfOk}
use Rattle.std.proofs.lemmas.Result.{IfErr-weaker, IfOk-weaker}
use Rattle.vsi_answers.specs.Requests.{BuildsTo, RunsTo, ViewsTo}
use Rattle.vsi_answers.specs.declared.unanswered.Unanswered.{Unanswered}
use Rattle.vsi_types.specs.declared.rules.Profile.TheVariants.{Base}
use Rattle.vsi_subject.specs.Refusals.{NoOther, FailsBy}
use Rattle.vsi_subject.specs.Reasons.{RefusesRun}
use Rattle.vsi_subject.specs.Tried.{BeginsSet, RunsMade, ShowsTo}
use Rattle.vsi_subject.proofs.AnswerLemmas.{answered_told}
use Rattle.vsi_subject.proofs.Reasons.{answered_fails, failed_by, fails_by, handed_reason}
use Rattle.vsi_subject.proofs.Unrun.{memory_failed}
use Rattle.vsi_requests.proofs.trials.ran.Goals as goal

pub returns-in-Some-clause-runs : goal.returns-in-Some-clause-runs
returns-in-Some-clause-runs c =
    let shows : IfOk c.answered.result (λ lines. ShowsTo c.args.lattice.now c.args.viewer c.in_ok-verified.verified
    c.as_slice-words.result.now c.args.attempt.now.budget (Ok lines)) = rw c.in-Some.is
    (answered_told (ViewsTo c.args.lattice.now c.in-Some.class c.in_ok-verified.verified c.as_slice-words.result.now
    c.args.attempt.now.budget) c.view-lines.result c.answered.result c.answered.ensures c.view-lines.ensures.views) in
    IfOk-weaker c.answered.result
    (λ lines. ShowsTo c.args.lattice.now c.args.viewer c.in_ok-verified.verified c.as_slice-words.result.now
    c.args.attempt.now.budget (Ok lines))
    (λ lines. RunsMade c.args.lattice.now c.args.viewer c.args.attempt.now c.args.text.now (Ok lines))
    (λ lines is. record {
      image = c.in_ok-verified.verified;
      made = c.in_ok-verified.ensures.made;
      words = c.in_ok-words.words;
      begins = subst (λ s. BeginsSet c.in_ok-verified.verified s (Ok c.in_ok-words.words))
          c.as_slice-settings.ensures.value c.in_ok-words.ensures.begins;
      shows = subst
          (λ w. ShowsTo c.args.lattice.now c.args.viewer c.in_ok-verified.verified w c.args.attempt.now.budget
          (Ok lines))
          c.as_slice-words.ensures.value is;
    })
    shows

pub returns-clause-runs : goal.returns-clause-runs
returns-clause-runs c =
    let shows : IfOk c.answered-in-None.result (λ lines. ShowsTo c.args.lattice.now c.args.viewer
    c.in_ok-verified.verified c.as_slice-words.result.now c.args.attempt.now.budget (Ok lines)) = rw c.in-None.is
    (answered_told (RunsTo c.in_ok-verified.verified c.as_slice-words.result.now c.args.attempt.now.budget)
    c.run.result c.answered-in-None.result c.answered-in-None.ensures c.run.ensures.runs) in
    IfOk-weaker c.answered-in-None.result
    (λ lines. ShowsTo c.args.lattice.now c.args.viewer c.in_ok-verified.verified c.as_slice-words.result.now
    c.args.attempt.now.budget (Ok lines))
    (λ lines. RunsMade c.args.lattice.now c.args.viewer c.args.attempt.now c.args.text.now (Ok lines))
    (λ lines is. record {
      image = c.in_ok-verified.verified;
      made = c.in_ok-verified.ensures.made;
      words = c.in_ok-words.words;
      begins = subst (λ s. BeginsSet c.in_ok-verified.verified s (Ok c.in_ok-words.words))
          c.as_slice-settings.ensures.value c.in_ok-words.ensures.begins;
      shows = subst
          (λ w. ShowsTo c.args.lattice.now c.args.viewer c.in_ok-verified.verified w c.args.attempt.now.budget
          (Ok lines))
          c.as_slice-words.ensures.value is;
    })
    shows

pub returns-in-Some-clause-failed : goal.returns-in-Some-clause-failed
returns-in-Some-clause-failed c =
    let Shows : Unanswered → Type 0 = λ reason. ShowsTo c.args.lattice.now c.args.viewer c.in_ok-verified.verified
    c.as_slice-words.result.now c.args.attempt.now.budget (Err reason) in
    let refuses = RefusesRun c.args.lattice.now c.args.viewer c.args.attempt.now c.args.text.now in
    let failed : IfErr c.answered.result (FailsBy Shows NoOther) = rw c.in-Some.is
    (answered_fails (ViewsTo c.args.lattice.now c.in-Some.class c.in_ok-verified.verified c.as_slice-words.result.now
    c.args.attempt.now.budget) c.view-lines.result c.answered.result c.answered.ensures c.view-lines.ensures.views) in
    IfErr-weaker c.answered.result (FailsBy Shows NoOther) (FailsBy refuses NoOther)
    (fails_by Shows refuses NoOther
    (λ reason shows. inr (inr (record {
      image = c.in_ok-verified.verified;
      made = c.in_ok-verified.ensures.made;
      words = c.in_ok-words.words;
      begins = subst (λ s. BeginsSet c.in_ok-verified.verified s (Ok c.in_ok-words.words))
          c.as_slice-settings.ensures.value c.in_ok-words.ensures.begins;
      shows = subst
          (λ w. ShowsTo c.args.lattice.now c.args.viewer c.in_ok-verified.verified w c.args.attempt.now.budget
          (Err reason))
          c.as_slice-words.ensures.value shows;
    }))))
    failed

pub returns-clause-failed : goal.returns-clause-failed
returns-clause-failed c =
    let Shows : Unanswered → Type 0 = λ reason. ShowsTo c.args.lattice.now c.args.viewer c.in_ok-verified.verified
    c.as_slice-words.result.now c.args.attempt.now.budget (Err reason) in
    let refuses = RefusesRun c.args.lattice.now c.args.viewer c.args.attempt.now c.args.text.now in
    let failed : IfErr c.answered-in-None.result (FailsBy Shows NoOther) = rw c.in-None.is
    (answered_fails (RunsTo c.in_ok-verified.verified c.as_slice-words.result.now c.args.attempt.now.budget)
    c.run.result c.answered-in-None.result c.answered-in-None.ensures c.run.ensures.runs) in
    IfErr-weaker c.answered-in-None.result (FailsBy Shows NoOther) (FailsBy refuses NoOther)
    (fails_by Shows refuses NoOther
    (λ reason shows. inr (inr (record {
      image = c.in_ok-verified.verified;
      made = c.in_ok-verified.ensures.made;
      words = c.in_ok-words.words;
      begins = subst (λ s. BeginsSet c.in_ok-verified.verified s (Ok c.in_ok-words.words))
          c.as_slice-settings.ensures.value c.in_ok-words.ensures.begins;
      shows = subst
          (λ w. ShowsTo c.args.lattice.now c.args.viewer c.in_ok-verified.verified w c.args.attempt.now.budget
          (Err reason))
          c.as_slice-words.ensures.value shows;
    }))))
    failed

pub returns-in_err-verified-clause-failed : goal.returns-in_err-verified-clause-failed
returns-in_err-verified-clause-failed c =
    failed_by (λ reason. BuildsTo c.args.lattice.now Base c.args.text.now (Err reason))
    (RefusesRun c.args.lattice.now c.args.viewer c.args.attempt.now c.args.text.now) NoOther (λ reason is. inl is)
    c.from_residual.result c.in_err-verified.field-0.0 c.from_residual.ensures.1 c.in_err-verified.ensures.failed

pub returns-in_err-keep_settings-clause-failed : goal.returns-in_err-keep_settings-clause-failed
returns-in_err-keep_settings-clause-failed c =
    memory_failed (RefusesRun c.args.lattice.now c.args.viewer c.args.attempt.now c.args.text.now) NoOther
    c.from_residual-in_err-keep_settings.result c.in_err-keep_settings.field-0.0
    c.from_residual-in_err-keep_settings.ensures.1 c.in_err-keep_settings.ensures

pub returns-in_err-words-clause-failed : goal.returns-in_err-words-clause-failed
returns-in_err-words-clause-failed c =
    handed_reason (RefusesRun c.args.lattice.now c.args.viewer c.args.attempt.now c.args.text.now) NoOther
    c.in_err-words.field-0.0 c.from_residual-in_err-words.result c.from_residual-in_err-words.ensures.1
    (inr (inl (record {
      image = c.in_ok-verified.verified;
      made = c.in_ok-verified.ensures.made;
      is = subst (λ s. BeginsSet c.in_ok-verified.verified s (Err c.in_err-words.field-0.0))
          c.as_slice-settings.ensures.value c.in_err-words.ensures.begins;
    })))
