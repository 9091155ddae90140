use Rattle.std.proofs.Common.{subst}
use Rattle.vsi_documents.specs.Runs.{TellsRun}
use Rattle.vsi_subject.specs.Refusals.{LacksBoundAt}
use Rattle.vsi_subject.proofs.Reasons.{failed_by}
use Rattle.vsi_subject.proofs.Unrun.{Unstarted, unbounded_failed}
use Rattle.vsi_requests.proofs.running.run_line.Goals as goal

pub returns-clause-told : goal.returns-clause-told
returns-clause-told g c = record {
  image = c.in_ok-verified.verified;
  words = c.in_ok-verified.words.items;
  begins = c.in_ok-verified.ensures.begins;
  budget = c.in_ok-budget.budget;
  within = c.in_ok-budget.ensures.budget;
  is = subst
      (λ w. TellsRun c.in_ok-verified.verified w c.in_ok-budget.budget c.in_ok-told.told.is_good
      c.in_ok-told.told.text.items)
      c.deref.ensures.value c.in_ok-told.ensures.answer;
}

pub returns-in_err-verified-clause-failed : goal.returns-in_err-verified-clause-failed
returns-in_err-verified-clause-failed g c =
    let holds = g.F.Files.holds c.args.subject.now.files.now in
    let unstarted = Unstarted holds c.args.execution c.args.initial_store.now in
    failed_by unstarted unstarted (LacksBoundAt holds c.args.execution.image.now c.args.execution.budget)
    (λ reason is. is) c.from_residual.result c.in_err-verified.field-0.0 c.from_residual.ensures.1
    c.in_err-verified.ensures.failed

pub returns-in_err-budget-clause-failed : goal.returns-in_err-budget-clause-failed
returns-in_err-budget-clause-failed g c =
    let holds = g.F.Files.holds c.args.subject.now.files.now in
    unbounded_failed holds c.args.execution.image.now c.args.execution.budget c.in_ok-verified.verified
    (Unstarted holds c.args.execution c.args.initial_store.now)
    (LacksBoundAt holds c.args.execution.image.now c.args.execution.budget)
    c.from_residual-in_err-budget.result c.in_err-budget.field-0.0 c.in_ok-verified.ensures.begins.image
    (λ s lacks. lacks) c.from_residual-in_err-budget.ensures.1 c.in_err-budget.ensures.failed
