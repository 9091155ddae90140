use Rattle.std.proofs.Common.{[], Err, subst}
use Rattle.vsi_answers.specs.Requests.{BeginsWith}
use Rattle.vsi_drive.specs.Starts.{Begins}
use Rattle.vsi_subject.specs.Refusals.{NoOther}
use Rattle.vsi_subject.proofs.Reasons.{handed_reason, late_failed}
use Rattle.vsi_requests.proofs.Undriven.{RefusesBeginning, begins_full, begins_stored}
use Rattle.vsi_requests.proofs.saves.first_store.Goals as goal

pub returns-clause-stored : goal.returns-clause-stored
returns-clause-stored g c =
    let words = c.in_ok-start_words.field-0.items in
    begins_stored (g.F.Files.holds c.args.subject.now.files.now) c.args.path c.args.verified.now c.in_ok-bytes.bytes.items
    c.args.is_full words c.in_ok-bytes.ensures.read
    (subst (λ f. Begins c.args.verified.now f [] c.args.is_full words) c.deref.ensures.value
    c.in_ok-start_words.ensures.begins)

pub returns-clause-full : goal.returns-clause-full
returns-clause-full g c =
    let words = c.in_ok-start_words.field-0.items in
    begins_full (g.F.Files.holds c.args.subject.now.files.now) c.args.path c.args.verified.now c.in_ok-bytes.bytes.items
    c.args.is_full words c.in_ok-bytes.ensures.read
    (subst (λ f. Begins c.args.verified.now f [] c.args.is_full words) c.deref.ensures.value
    c.in_ok-start_words.ensures.begins)

pub returns-in_err-bytes-clause-failed : goal.returns-in_err-bytes-clause-failed
returns-in_err-bytes-clause-failed g c =
    late_failed (RefusesBeginning (g.F.Files.holds c.args.subject.now.files.now) c.args.path c.args.verified.now c.args.is_full)
    NoOther c.from_residual.result c.in_err-bytes.field-0.0 c.from_residual.ensures.1 c.in_err-bytes.ensures.failed

pub returns-in_err-start_words-clause-failed : goal.returns-in_err-start_words-clause-failed
returns-in_err-start_words-clause-failed g c =
    handed_reason
    (RefusesBeginning (g.F.Files.holds c.args.subject.now.files.now) c.args.path c.args.verified.now c.args.is_full)
    NoOther c.in_err-start_words.field-0.0 c.from_residual-in_err-start_words.result
    c.from_residual-in_err-start_words.ensures.1 (
      c.in_ok-bytes.bytes.items,
      c.in_ok-bytes.ensures.read,
      subst (λ f. BeginsWith c.args.verified.now f [] c.args.is_full (Err c.in_err-start_words.field-0.0))
          c.deref.ensures.value c.in_err-start_words.ensures.begins,
    )
