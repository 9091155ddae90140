use Rattle.std.proofs.Common.{◌≡◌, refl}
use Rattle.vsi_subject.specs.declared.failure.Failure.TheVariants.{Memory}
use Rattle.vsi_subject.proofs.Reasons.{handed}
use Rattle.vsi_requests.proofs.Stepped.{same_count}
use Rattle.vsi_requests.proofs.stepping.written_image.Goals as goal

pub returns-clause-made : goal.returns-clause-made
returns-clause-made c =
    record { program = c.resolved-program.ensures.kept.stands; image = c.in_ok-verified.ensures.image }

pub returns-clause-len : goal.returns-clause-len
returns-clause-len c =
    same_count c.args.source.now c.in_ok-verified.verified c.resolved-program.ensures.kept
    c.in_ok-verified.ensures.globals
