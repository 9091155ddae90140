use Rattle.std.proofs.Common.{inl, inr}
use Rattle.vsi_subject.specs.Refusals.{NoOther, RefusesImage}
use Rattle.vsi_subject.proofs.Reasons.{failed_by, late_failed}
use Rattle.vsi_subject.proofs.Unrun.{Unstarted, begins_at, start_failed}
use Rattle.vsi_requests.proofs.running.image_and_words.Goals as goal

pub returns-clause-begins : goal.returns-clause-begins
returns-clause-begins g c =
    begins_at (g.F.Files.holds c.args.subject.now.files.now) c.args.execution c.args.initial_store.now
    c.in_ok-verified.verified c.in_ok-file.file.items c.deref.result.now c.in_ok-words.words.items
    c.in_ok-verified.ensures.read
    c.in_ok-file.ensures.read c.deref.ensures.value c.in_ok-words.ensures.begins c.in_ok-words.ensures.len

pub returns-in_err-file-clause-failed : goal.returns-in_err-file-clause-failed
returns-in_err-file-clause-failed g c =
    let holds = g.F.Files.holds c.args.subject.now.files.now in
    late_failed (Unstarted holds c.args.execution c.args.initial_store.now) NoOther c.from_residual.result
    c.in_err-file.field-0.0 c.from_residual.ensures.1 c.in_err-file.ensures.failed

pub returns-in_err-verified-clause-failed : goal.returns-in_err-verified-clause-failed
returns-in_err-verified-clause-failed g c =
    let holds = g.F.Files.holds c.args.subject.now.files.now in
    failed_by (RefusesImage holds c.args.execution.image.now) (Unstarted holds c.args.execution
    c.args.initial_store.now) NoOther (λ reason is. inl is) c.from_residual-in_err-verified.result
    c.in_err-verified.field-0.0
    c.from_residual-in_err-verified.ensures.1 c.in_err-verified.ensures.failed

pub returns-in_err-words-clause-failed : goal.returns-in_err-words-clause-failed
returns-in_err-words-clause-failed g c =
    let holds = g.F.Files.holds c.args.subject.now.files.now in
    start_failed holds c.args.execution c.args.initial_store.now (Unstarted holds c.args.execution
    c.args.initial_store.now) NoOther
    c.in_ok-verified.verified c.in_ok-file.file.items c.deref.result.now c.from_residual-in_err-words.result
    c.in_err-words.field-0.0
    c.in_ok-verified.ensures.read
    c.in_ok-file.ensures.read c.deref.ensures.value (λ reason is. inr is)
    c.from_residual-in_err-words.ensures.1 c.in_err-words.ensures.failed
