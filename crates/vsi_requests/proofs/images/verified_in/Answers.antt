use Rattle.std.proofs.Common.{Err, subst}
use Rattle.vsi_answers.specs.Judged.{AreImage}
use Rattle.vsi_answers.specs.Requests.{ReadsImage}
use Rattle.vsi_subject.specs.Refusals.{NoOther, RefusesImage}
use Rattle.vsi_subject.proofs.Reasons.{handed_reason}
use Rattle.vsi_requests.proofs.images.verified_in.Goals as goal

pub returns-clause-are : goal.returns-clause-are
returns-clause-are g c =
    subst (λ b. AreImage b c.in_ok-verified.verified) c.as_slice.ensures.value c.in_ok-verified.ensures.image

pub returns-in_err-verified-clause-failed : goal.returns-in_err-verified-clause-failed
returns-in_err-verified-clause-failed g c =
    handed_reason (RefusesImage (g.F.Files.holds c.args.subject.now.files.now) c.args.path.now) NoOther
    c.in_err-verified.field-0.0 c.from_residual-in_err-verified.result c.from_residual-in_err-verified.ensures.1
    (record {
      bytes = c.in_ok-bytes.bytes.items;
      read = c.in_ok-bytes.ensures.read;
      is = subst (λ b. ReadsImage b (Err c.in_err-verified.field-0.0)) c.as_slice.ensures.value
          c.in_err-verified.ensures.image;
    })
