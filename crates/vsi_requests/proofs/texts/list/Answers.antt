use Rattle.std.proofs.Common.{Err, subst}
use Rattle.vsi_answers.specs.Requests.{ListsTo}
use Rattle.vsi_subject.specs.Performed.{ToldListing}
use Rattle.vsi_subject.specs.Refusals.{NoOther, RefusesFile}
use Rattle.vsi_subject.proofs.Reasons.{handed_reason}
use Rattle.vsi_requests.proofs.texts.list.Goals as goal

pub returns-clause-told : goal.returns-clause-told
returns-clause-told g c =
    record {
      bytes = c.in_ok-bytes.bytes.items;
      read = c.in_ok-bytes.ensures.read;
      is = subst (λ b. ToldListing b c.in_ok-list.field-0) c.as_slice.ensures.value c.in_ok-list.ensures.lists;
    }

pub returns-in_err-list-clause-failed : goal.returns-in_err-list-clause-failed
returns-in_err-list-clause-failed g c =
    handed_reason (RefusesFile (g.F.Files.holds c.args.subject.now.files.now) c.args.image.now ListsTo) NoOther
    c.in_err-list.field-0.0 c.from_residual-in_err-list.result c.from_residual-in_err-list.ensures.1
    (record {
      bytes = c.in_ok-bytes.bytes.items;
      read = c.in_ok-bytes.ensures.read;
      is = subst (λ b. ListsTo b (Err c.in_err-list.field-0.0)) c.as_slice.ensures.value c.in_err-list.ensures.lists;
    })
