use Rattle.std.proofs.Common.{subst}
use Rattle.vsi_image.specs.Fields.{globals}
use Rattle.vsi_store.specs.File.{IsRefusal, Tells}
use Rattle.vsi_subject.specs.Refusals.{NoOther, FailsBy}
use Rattle.vsi_subject.proofs.Reasons.{handed, late_fails}
use Rattle.vsi_subject.proofs.Unrun.{RefusesWords, words_failure}
use Rattle.vsi_requests.proofs.drives.stored_words.Goals as goal

pub returns-in-Ok-clause-stored : goal.returns-in-Ok-clause-stored
returns-in-Ok-clause-stored g c =
    record {
      file = c.in_ok-bytes.bytes.items;
      read = c.in_ok-bytes.ensures.read;
      told = subst (λ f. Tells f (globals c.args.verified.now.globals.items) c.in-Ok.words.items)
          c.as_slice.ensures.value
          (subst (λ im. Tells c.as_slice.result.now (globals im.globals.items) c.in-Ok.words.items)
          c.image.ensures.same c.in-Ok.ensures.words);
    }

pub returns-in_err-bytes-clause-failed : goal.returns-in_err-bytes-clause-failed
returns-in_err-bytes-clause-failed g c =
    let why = RefusesWords (g.F.Files.holds c.args.subject.now.files.now) c.args.path c.args.verified.now in
    handed (FailsBy why NoOther) c.in_err-bytes.field-0.0 c.from_residual.result c.from_residual.ensures.1
    (late_fails why NoOther c.in_err-bytes.field-0.0 c.in_err-bytes.ensures.failed)

pub returns-clause-failed : goal.returns-clause-failed
returns-clause-failed g c =
    words_failure (g.F.Files.holds c.args.subject.now.files.now) c.args.path c.args.verified.now c.in_ok-bytes.bytes.items
    c.in-Err.error c.faulty.result c.in_ok-bytes.ensures.read
    (subst (λ f. IsRefusal (globals c.args.verified.now.globals.items) f c.in-Err.error)
    c.as_slice.ensures.value
    (subst (λ im. IsRefusal (globals im.globals.items) c.as_slice.result.now c.in-Err.error)
    c.image.ensures.same c.in-Err.ensures.refused))
    c.faulty.ensures
