use Rattle.std.proofs.Common.{◌≡◌, inl, inr, subst}
use Rattle.std.proofs.lemmas.Result.{IfErr-weaker, IfOk-weaker}
use Rattle.vsi_lattice.specs.LatticeView.{order}
use Rattle.vsi_answers.specs.declared.unanswered.Unanswered.TheVariants as unanswered
use Rattle.vsi_subject.specs.Refusals.{FailsBy, NoOther, RefusesLattice}
use Rattle.vsi_subject.specs.Stepping.{EndsMonitored, IsMonitored, OfStepFiles, rule_of}
use Rattle.vsi_subject.specs.Unstepped.{WhyMonitor}
use Rattle.vsi_subject.proofs.Reasons.{failed_by, fails_by, handed}
use Rattle.vsi_requests.proofs.Stepped.{lacks_program, refuses_words, watched}
use Rattle.vsi_requests.proofs.stepping.monitor.Goals as goal

pub returns-clause-told : goal.returns-clause-told
returns-clause-told g c =
    let holds = g.F.Files.holds c.args.subject.now.files.now in
    let read = c.in_ok-read.read in
    let source = c.in_ok-source.source in
    IfOk-weaker c.monitor_reply.result
    (λ reply. EndsMonitored c.rule_of.result reply.is_good (order source.lattice) source.resolved c.deref-3.result.now)
    (λ reply. OfStepFiles holds c.args.asked.now (IsMonitored c.args.asked.now (rule_of c.args.rule) reply.is_good))
    (λ reply ends. watched holds c.args.asked.now read.lattice read.text.items read.file.items
    c.in_ok-read.ensures.read source c.deref.result.now c.deref-2.result.now c.in_ok-source.ensures.lattice
    c.in_ok-source.ensures.text c.deref.ensures.value c.deref-2.ensures.value (rule_of c.args.rule) c.in_ok-words.words.items
    c.deref-3.result.now reply.is_good c.in_ok-words.ensures.started c.deref-3.ensures.value
    (subst (λ R. EndsMonitored R reply.is_good (order source.lattice) source.resolved c.deref-3.result.now)
    c.rule_of.ensures ends))
    c.monitor_reply.ensures.told

pub returns-clause-failed : goal.returns-clause-failed
returns-clause-failed g c =
    let why = WhyMonitor (g.F.Files.holds c.args.subject.now.files.now) c.args.asked.now in
    IfErr-weaker c.monitor_reply.result (FailsBy (λ reason. reason ≡ unanswered.OutOfBudget) NoOther)
    (FailsBy why NoOther)
    (fails_by (λ reason. reason ≡ unanswered.OutOfBudget) why NoOther (λ reason is. inr is))
    c.monitor_reply.ensures.failed

pub returns-in_err-read-clause-failed : goal.returns-in_err-read-clause-failed
returns-in_err-read-clause-failed g c =
    let holds = g.F.Files.holds c.args.subject.now.files.now in
    failed_by (RefusesLattice holds c.args.asked.now.lattice.now) (WhyMonitor holds c.args.asked.now) NoOther
    (λ reason is. inl (inl is)) c.from_residual.result c.in_err-read.field-0.0 c.from_residual.ensures.1
    c.in_err-read.ensures.failed

pub returns-in_err-source-clause-failed : goal.returns-in_err-source-clause-failed
returns-in_err-source-clause-failed g c =
    let holds = g.F.Files.holds c.args.subject.now.files.now in
    let read = c.in_ok-read.read in
    let why = WhyMonitor holds c.args.asked.now in
    handed (FailsBy why NoOther) c.in_err-source.field-0.0 c.from_residual-in_err-source.result
    c.from_residual-in_err-source.ensures.1
    (lacks_program holds c.args.asked.now read.lattice read.text.items read.file.items c.deref.result.now why
    (λ reason is. inl is) c.in_err-source.field-0.0 c.in_ok-read.ensures.read c.deref.ensures.value
    c.in_err-source.ensures.failed)

pub returns-in_err-words-clause-failed : goal.returns-in_err-words-clause-failed
returns-in_err-words-clause-failed g c =
    let holds = g.F.Files.holds c.args.subject.now.files.now in
    let read = c.in_ok-read.read in
    let why = WhyMonitor holds c.args.asked.now in
    handed (FailsBy why NoOther) c.in_err-words.field-0.0 c.from_residual-in_err-words.result
    c.from_residual-in_err-words.ensures.1
    (refuses_words holds c.args.asked.now read.lattice read.text.items read.file.items c.in_ok-read.ensures.read
    c.in_ok-source.source c.deref.result.now c.deref-2.result.now c.in_ok-source.ensures.lattice
    c.in_ok-source.ensures.text c.deref.ensures.value c.deref-2.ensures.value why (λ reason is. inl is)
    c.in_err-words.field-0.0 c.in_err-words.ensures.failed)
