use Rattle.std.proofs.Common.{◌≡◌, refl}
use Rattle.vsi_subject.specs.declared.failure.Failure.TheVariants.{Memory}
use Rattle.vsi_subject.proofs.Reasons.{handed}
use Rattle.vsi_requests.proofs.running.keep_settings.Goals as goal

pub returns-in_err-keep : goal.returns-in_err-keep
returns-in_err-keep c =
    handed (λ failure. failure ≡ Memory) Memory c.from_residual.result c.from_residual.ensures.1 refl
