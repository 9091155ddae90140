use Rattle.std.proofs.Common.{Err, sym, subst}
use Rattle.vsi_answers.specs.Requests.{ReadsImage}
use Rattle.vsi_subject.specs.Holding.{IsReadAt}
use Rattle.vsi_subject.specs.Refusals.{NoOther, RefusesImage}
use Rattle.vsi_subject.proofs.Reasons.{handed_reason}
use Rattle.vsi_subject.proofs.subject.Subject.image_in.Goals as goal

pub returns-clause-read : goal.returns-clause-read
returns-clause-read g c =
    record {
      bytes = c.as_slice.result.now;
      read = subst (IsReadAt (g.F.Files.holds c.args.self.now.files.now) c.args.path.now) (sym c.as_slice.ensures.value)
          c.in_ok-bytes.ensures.read;
      are = c.in_ok-verified.ensures.image;
    }

pub returns-in_err-verified-clause-failed : goal.returns-in_err-verified-clause-failed
returns-in_err-verified-clause-failed g c =
    handed_reason (RefusesImage (g.F.Files.holds c.args.self.now.files.now) c.args.path.now) NoOther
    c.in_err-verified.field-0.0 c.from_residual-in_err-verified.result c.from_residual-in_err-verified.ensures.1
    (record {
      bytes = c.in_ok-bytes.bytes.items;
      read = c.in_ok-bytes.ensures.read;
      is = subst (λ b. ReadsImage b (Err c.in_err-verified.field-0.0)) c.as_slice.ensures.value
          c.in_err-verified.ensures.image;
    })
