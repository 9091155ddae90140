use Rattle.vsi_subject.specs.Refusals.{FailsBy}
use Rattle.vsi_subject.specs.Undriven.{IsUnusable}
use Rattle.vsi_subject.proofs.Reasons.{handed, late_fails}
use Rattle.vsi_requests.proofs.conformity.reference_image.Goals as goal

pub returns-in_err-text : goal.returns-in_err-text
returns-in_err-text g c =
    handed (FailsBy (λ reason. ⊥) IsUnusable) c.in_err-text.field-0.0 c.from_residual.result c.from_residual.ensures.1
    (late_fails (λ reason. ⊥) IsUnusable c.in_err-text.field-0.0 c.in_err-text.ensures.failed)
