use Rattle.std.proofs.Common.{inl}
use Rattle.vsi_subject.specs.Refusals.{FailsBy, NoOther, RefusesLattice}
use Rattle.vsi_subject.specs.Unstepped.{WhySteps}
use Rattle.vsi_subject.proofs.Reasons.{failed_by, handed}
use Rattle.vsi_requests.proofs.Stepped.{lacks_program, refuses_words, stepped}
use Rattle.vsi_requests.proofs.stepping.steps.Goals as goal

pub returns-clause-told : goal.returns-clause-told
returns-clause-told g c =
    let read = c.in_ok-read.read in
    stepped (g.F.Files.holds c.args.subject.now.files.now) c.args.asked.now read.lattice read.text.items read.file.items
    c.in_ok-read.ensures.read c.in_ok-source.source c.deref.result.now c.deref-2.result.now
    c.in_ok-source.ensures.lattice c.in_ok-source.ensures.text c.deref.ensures.value c.deref-2.ensures.value
    c.in_ok-words.words.items c.deref-3.result.now c.in_ok-reply.reply.is_good c.in_ok-words.ensures.started
    c.deref-3.ensures.value c.in_ok-reply.ensures

pub returns-in_err-read-clause-failed : goal.returns-in_err-read-clause-failed
returns-in_err-read-clause-failed g c =
    let holds = g.F.Files.holds c.args.subject.now.files.now in
    failed_by (RefusesLattice holds c.args.asked.now.lattice.now) (WhySteps holds c.args.asked.now) NoOther
    (λ reason is. inl is) c.from_residual.result c.in_err-read.field-0.0 c.from_residual.ensures.1
    c.in_err-read.ensures.failed

pub returns-in_err-source-clause-failed : goal.returns-in_err-source-clause-failed
returns-in_err-source-clause-failed g c =
    let holds = g.F.Files.holds c.args.subject.now.files.now in
    let read = c.in_ok-read.read in
    let why = WhySteps holds c.args.asked.now in
    handed (FailsBy why NoOther) c.in_err-source.field-0.0 c.from_residual-in_err-source.result
    c.from_residual-in_err-source.ensures.1
    (lacks_program holds c.args.asked.now read.lattice read.text.items read.file.items c.deref.result.now why
    (λ reason is. is) c.in_err-source.field-0.0 c.in_ok-read.ensures.read c.deref.ensures.value
    c.in_err-source.ensures.failed)

pub returns-in_err-words-clause-failed : goal.returns-in_err-words-clause-failed
returns-in_err-words-clause-failed g c =
    let holds = g.F.Files.holds c.args.subject.now.files.now in
    let read = c.in_ok-read.read in
    let why = WhySteps holds c.args.asked.now in
    handed (FailsBy why NoOther) c.in_err-words.field-0.0 c.from_residual-in_err-words.result
    c.from_residual-in_err-words.ensures.1
    (refuses_words holds c.args.asked.now read.lattice read.text.items read.file.items c.in_ok-read.ensures.read
    c.in_ok-source.source c.deref.result.now c.deref-2.result.now c.in_ok-source.ensures.lattice
    c.in_ok-source.ensures.text c.deref.ensures.value c.deref-2.ensures.value why (λ reason is. is)
    c.in_err-words.field-0.0 c.in_err-words.ensures.failed)
