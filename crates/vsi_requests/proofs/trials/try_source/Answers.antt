use Rattle.std.proofs.Common.{Ok, inl, inr, sym, subst}
use Rattle.std.proofs.lemmas.Result.{IfErr-weaker, IfOk-weaker}
use Rattle.vsi_subject.specs.Holding.{IsReadAt}
use Rattle.vsi_subject.specs.Refusals.{NoOther, FailsBy}
use Rattle.vsi_subject.specs.Refusals.{LacksGiven}
use Rattle.vsi_subject.specs.Reasons.{LacksTried, RefusesRun, RefusesUnder, WhyTry}
use Rattle.vsi_subject.specs.Tried.{RunsMade, TriesFile}
use Rattle.vsi_subject.proofs.Reasons.{FailsBy-weaker, failed_by, fails_by, handed, late_failed}
use Rattle.vsi_requests.proofs.trials.try_source.Goals as goal

pub returns-clause-told : goal.returns-clause-told
returns-clause-told g c =
    let holds = g.F.Files.holds c.args.subject.now.files.now in
    IfOk-weaker c.ran.result
    (λ lines. RunsMade c.in_ok-lattice.lattice c.in_ok-viewer.viewer c.args.attempt.now c.as_slice-text.result.now
    (Ok lines))
    (TriesFile holds c.args.attempt.now)
    (λ lines runs. record {
      text = c.as_slice-text.result.now;
      lattice = c.in_ok-lattice.lattice;
      viewer = c.in_ok-viewer.viewer;
      tried = record {
        read = subst (IsReadAt holds c.args.attempt.now.source.now) (sym c.as_slice-text.ensures.value)
            c.in_ok-bytes.ensures.read;
        under = c.in_ok-lattice.ensures.declared;
        looks = c.in_ok-viewer.ensures.looks;
      };
      runs = runs;
    })
    c.ran.ensures.runs

pub returns-clause-failed : goal.returns-clause-failed
returns-clause-failed g c =
    let holds = g.F.Files.holds c.args.subject.now.files.now in
    let refuses = RefusesRun c.in_ok-lattice.lattice c.in_ok-viewer.viewer c.args.attempt.now
    c.as_slice-text.result.now in
    IfErr-weaker c.ran.result (FailsBy refuses NoOther)
    (FailsBy (WhyTry holds c.args.attempt.now) (LacksTried holds c.args.attempt.now))
    (fails_by refuses (WhyTry holds c.args.attempt.now) (LacksTried holds c.args.attempt.now)
    (λ reason is. inr (record {
      text = c.as_slice-text.result.now;
      lattice = c.in_ok-lattice.lattice;
      viewer = c.in_ok-viewer.viewer;
      tried = record {
        read = subst (IsReadAt holds c.args.attempt.now.source.now) (sym c.as_slice-text.ensures.value)
            c.in_ok-bytes.ensures.read;
        under = c.in_ok-lattice.ensures.declared;
        looks = c.in_ok-viewer.ensures.looks;
      };
      is = is;
    })))
    c.ran.ensures.failed

pub returns-in_err-bytes-clause-failed : goal.returns-in_err-bytes-clause-failed
returns-in_err-bytes-clause-failed g c =
    let holds = g.F.Files.holds c.args.subject.now.files.now in
    late_failed (WhyTry holds c.args.attempt.now) (LacksTried holds c.args.attempt.now) c.from_residual.result
    c.in_err-bytes.field-0.0 c.from_residual.ensures.1 c.in_err-bytes.ensures.failed

pub returns-in_err-lattice-clause-failed : goal.returns-in_err-lattice-clause-failed
returns-in_err-lattice-clause-failed g c =
    let holds = g.F.Files.holds c.args.subject.now.files.now in
    let text = c.as_slice-text.result.now in
    failed_by (RefusesUnder holds c.args.attempt.now.lattice c.args.attempt.now.source.now text) (WhyTry holds
    c.args.attempt.now) (LacksTried holds c.args.attempt.now) (λ reason is. inl (record {
      text = text;
      read = subst (IsReadAt holds c.args.attempt.now.source.now) (sym c.as_slice-text.ensures.value)
          c.in_ok-bytes.ensures.read;
      is = is;
    })) c.from_residual-in_err-lattice.result c.in_err-lattice.field-0.0
    c.from_residual-in_err-lattice.ensures.1 c.in_err-lattice.ensures.failed

pub returns-in_err-viewer-clause-failed : goal.returns-in_err-viewer-clause-failed
returns-in_err-viewer-clause-failed g c =
    let holds = g.F.Files.holds c.args.subject.now.files.now in
    let text = c.as_slice-text.result.now in
    handed (FailsBy (WhyTry holds c.args.attempt.now) (LacksTried holds c.args.attempt.now))
    c.in_err-viewer.field-0.0 c.from_residual-in_err-viewer.result c.from_residual-in_err-viewer.ensures.1
    (FailsBy-weaker (λ reason. ⊥) (WhyTry holds c.args.attempt.now)
    (LacksGiven c.in_ok-lattice.lattice c.args.attempt.now.class) (LacksTried holds c.args.attempt.now)
    (λ reason none. absurd none)
    (λ failure lacks. record {
      text = text;
      read = subst (IsReadAt holds c.args.attempt.now.source.now) (sym c.as_slice-text.ensures.value)
          c.in_ok-bytes.ensures.read;
      lattice = c.in_ok-lattice.lattice;
      under = c.in_ok-lattice.ensures.declared;
      lacks = lacks;
    })
    c.in_err-viewer.field-0.0 c.in_err-viewer.ensures.failed)
