use Rattle.std.proofs.Common.{◌∙◌, sym}
use Rattle.vsi_image.specs.Fields.{fields}
use Rattle.vsi_image.proofs.Limited.{limits}
use Rattle.vsi_image.proofs.Images.{spelled-is_read}
use Rattle.vsi_image.proofs.encoder.encode.Goals as goal

pub bytes_of-requires : goal.bytes_of-requires
bytes_of-requires c = limits (fields c.args.image.now) (sym c.limit_of.ensures ∙ c.in_default.is)

pub returns-clause-allowed : goal.returns-clause-allowed
returns-clause-allowed c = limits (fields c.args.image.now) (sym c.limit_of.ensures ∙ c.in_default.is)

pub returns-clause-spelled : goal.returns-clause-spelled
returns-clause-spelled c =
    record { version = 2; fits = c.in_ok-bytes_of.ensures.fits; spelled = c.in_ok-bytes_of.ensures.bytes }

pub returns-clause-read : goal.returns-clause-read
returns-clause-read c =
    spelled-is_read c.in_ok-bytes_of.field-0.items (fields c.args.image.now)
    (record { version = 2; fits = c.in_ok-bytes_of.ensures.fits; spelled = c.in_ok-bytes_of.ensures.bytes })
