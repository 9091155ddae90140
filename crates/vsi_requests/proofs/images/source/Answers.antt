use Rattle.vsi_subject.specs.Refusals.{RefusesImage, FailsBy}
use Rattle.vsi_subject.specs.Reasons.{HasNoText}
use Rattle.vsi_subject.proofs.Reasons.{handed, fails_by}
use Rattle.vsi_subject.proofs.Unrun.{memory_fails, textless_fails}
use Rattle.vsi_requests.proofs.images.source.Goals as goal

pub returns-in-Ok-clause-told : goal.returns-in-Ok-clause-told
returns-in-Ok-clause-told g c =
    record {
      image = c.in_ok-verified.verified;
      held = c.in_ok-verified.ensures.read;
      is = c.in-Ok.ensures;
    }

pub returns-in_err-verified-clause-failed : goal.returns-in_err-verified-clause-failed
returns-in_err-verified-clause-failed g c =
    let holds = g.F.Files.holds c.args.subject.now.files.now in
    let why = RefusesImage holds c.args.image.now in
    let other = HasNoText holds c.args.image.now in
    handed (FailsBy why other) c.in_err-verified.field-0.0 c.from_residual.result c.from_residual.ensures.1
    (fails_by why why other (λ reason is. is) c.in_err-verified.field-0.0 c.in_err-verified.ensures.failed)

pub returns-in_err-classes-in-Err-clause-failed : goal.returns-in_err-classes-in-Err-clause-failed
returns-in_err-classes-in-Err-clause-failed g c =
    let holds = g.F.Files.holds c.args.subject.now.files.now in
    let why = RefusesImage holds c.args.image.now in
    let other = HasNoText holds c.args.image.now in
    handed (FailsBy why other) c.in_err-classes-in-Err.field-0.0 c.from_residual-in_err-classes-in-Err.result
    c.from_residual-in_err-classes-in-Err.ensures.1
    (memory_fails why other c.in_err-classes-in-Err.field-0.0 c.in_err-classes-in-Err.ensures.memory)

pub returns-clause-failed : goal.returns-clause-failed
returns-clause-failed g c =
    let holds = g.F.Files.holds c.args.subject.now.files.now in
    let why = RefusesImage holds c.args.image.now in
    textless_fails why holds c.args.image.now c.in_ok-verified.verified c.image.result.now
    c.in_ok-classes-in-Err.classes c.in-Err.error c.refused_image.result c.in_ok-verified.ensures.read
    c.in_ok-classes-in-Err.ensures.declared c.image.ensures.same c.refused_image.ensures
