use Rattle.std.proofs.Common.{Ok, Err, inl, inr, subst}
use Rattle.vsi_answers.specs.Requests.{ViewsTo}
use Rattle.vsi_subject.specs.Refusals.{LacksClassAt, LacksEither}
use Rattle.vsi_subject.specs.Reasons.{WhyView}
use Rattle.vsi_subject.proofs.Reasons.{handed_reason, late_failed}
use Rattle.vsi_subject.proofs.Unrun.{begins_at, more_failed, start_failed, unbounded_failed, unseen_failed}
use Rattle.vsi_requests.proofs.running.view.Goals as goal

pub returns-clause-told : goal.returns-clause-told
returns-clause-told g c =
    record {
      lattice = c.in_ok-classes.classes;
      viewer = c.in_ok-classes.viewer;
      looks = c.in_ok-classes.ensures.looks;
      image = c.in_ok-classes.verified;
      words = c.in_ok-words.words.items;
      begins = begins_at (g.F.Files.holds c.args.subject.now.files.now) c.args.execution c.args.initial_store.now
          c.in_ok-classes.verified c.in_ok-file.file.items c.deref.result.now c.in_ok-words.words.items
          c.in_ok-classes.ensures.held
          c.in_ok-file.ensures.read
          c.deref.ensures.value c.in_ok-words.ensures.begins c.in_ok-words.ensures.len;
      budget = c.in_ok-budget.budget;
      within = c.in_ok-budget.ensures.budget;
      views = subst
          (λ w. ViewsTo c.in_ok-classes.classes c.in_ok-classes.viewer c.in_ok-classes.verified w
          c.in_ok-budget.budget (Ok c.in_ok-view.field-0))
          c.deref-2.ensures.value c.in_ok-view.ensures.views;
    }

pub returns-in_err-classes-clause-failed : goal.returns-in_err-classes-clause-failed
returns-in_err-classes-clause-failed g c =
    let holds = g.F.Files.holds c.args.subject.now.files.now in
    let why = WhyView holds c.args.lattice.now c.args.class.now c.args.execution c.args.initial_store.now in
    more_failed why (LacksClassAt holds c.args.lattice.now c.args.class.now)
    (LacksEither holds c.args.lattice.now c.args.class.now c.args.execution.image.now c.args.execution.budget)
    c.from_residual.result (λ failure lacks. inl lacks)
    (unseen_failed holds c.args.lattice.now c.args.execution.image.now why
    (LacksClassAt holds c.args.lattice.now c.args.class.now) c.from_residual.result c.in_err-classes.field-0.0
    (λ reason is. inl is) (λ reason is. inr (inl is)) c.from_residual.ensures.1 c.in_err-classes.ensures.failed)

pub returns-in_err-file-clause-failed : goal.returns-in_err-file-clause-failed
returns-in_err-file-clause-failed g c =
    let holds = g.F.Files.holds c.args.subject.now.files.now in
    let why = WhyView holds c.args.lattice.now c.args.class.now c.args.execution c.args.initial_store.now in
    late_failed why
    (LacksEither holds c.args.lattice.now c.args.class.now c.args.execution.image.now c.args.execution.budget)
    c.from_residual-in_err-file.result
    c.in_err-file.field-0.0 c.from_residual-in_err-file.ensures.1 c.in_err-file.ensures.failed

pub returns-in_err-words-clause-failed : goal.returns-in_err-words-clause-failed
returns-in_err-words-clause-failed g c =
    let holds = g.F.Files.holds c.args.subject.now.files.now in
    let why = WhyView holds c.args.lattice.now c.args.class.now c.args.execution c.args.initial_store.now in
    start_failed holds c.args.execution c.args.initial_store.now why
    (LacksEither holds c.args.lattice.now c.args.class.now c.args.execution.image.now c.args.execution.budget)
    c.in_ok-classes.verified c.in_ok-file.file.items
    c.deref.result.now c.from_residual-in_err-words.result c.in_err-words.field-0.0 c.in_ok-classes.ensures.held
    c.in_ok-file.ensures.read
    c.deref.ensures.value (λ reason is. inr (inr (inl is))) c.from_residual-in_err-words.ensures.1
    c.in_err-words.ensures.failed

pub returns-in_err-budget-clause-failed : goal.returns-in_err-budget-clause-failed
returns-in_err-budget-clause-failed g c =
    let holds = g.F.Files.holds c.args.subject.now.files.now in
    let why = WhyView holds c.args.lattice.now c.args.class.now c.args.execution c.args.initial_store.now in
    unbounded_failed holds c.args.execution.image.now c.args.execution.budget c.in_ok-classes.verified why
    (LacksEither holds c.args.lattice.now c.args.class.now c.args.execution.image.now c.args.execution.budget)
    c.from_residual-in_err-budget.result c.in_err-budget.field-0.0 c.in_ok-classes.ensures.held
    (λ s lacks. inr lacks) c.from_residual-in_err-budget.ensures.1 c.in_err-budget.ensures.failed

pub returns-in_err-view-clause-failed : goal.returns-in_err-view-clause-failed
returns-in_err-view-clause-failed g c =
    let holds = g.F.Files.holds c.args.subject.now.files.now in
    let why = WhyView holds c.args.lattice.now c.args.class.now c.args.execution c.args.initial_store.now in
    handed_reason why
    (LacksEither holds c.args.lattice.now c.args.class.now c.args.execution.image.now c.args.execution.budget)
    c.in_err-view.field-0.0
    c.from_residual-in_err-view.result c.from_residual-in_err-view.ensures.1
    (inr (inr (inr (record {
      lattice = c.in_ok-classes.classes;
      viewer = c.in_ok-classes.viewer;
      looks = c.in_ok-classes.ensures.looks;
      image = c.in_ok-classes.verified;
      words = c.in_ok-words.words.items;
      begins = begins_at (g.F.Files.holds c.args.subject.now.files.now) c.args.execution c.args.initial_store.now
          c.in_ok-classes.verified c.in_ok-file.file.items c.deref.result.now c.in_ok-words.words.items
          c.in_ok-classes.ensures.held
          c.in_ok-file.ensures.read
          c.deref.ensures.value c.in_ok-words.ensures.begins c.in_ok-words.ensures.len;
      budget = c.in_ok-budget.budget;
      within = c.in_ok-budget.ensures.budget;
      is = subst
          (λ w. ViewsTo c.in_ok-classes.classes c.in_ok-classes.viewer c.in_ok-classes.verified w
          c.in_ok-budget.budget (Err c.in_err-view.field-0.0))
          c.deref-2.ensures.value c.in_err-view.ensures.views;
    }))))
