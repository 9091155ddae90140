use Rattle.std.proofs.Common.{subst, arith}
use Rattle.vsi_image.specs.Fields.{fields}
use Rattle.vsi_image.specs.Reading.{Gives}
use Rattle.vsi_image.proofs.Images.{read-is_spelled, read-by_version, spelled-is_read}
use Rattle.vsi_image.proofs.decoder.decode.Goals as goal

pub returns-clause-found : goal.returns-clause-found
returns-clause-found c =
    read-is_spelled c.args.bytes.now c.image_at.result (λ i. omega (arith, c.type_inv.bytes i)) c.image_at.ensures

pub returns-clause-only : goal.returns-clause-only
returns-clause-only c = λ f s.
    subst (λ r. Gives fields c.image_at.result r) (spelled-is_read c.args.bytes.now f s) c.image_at.ensures

pub returns-clause-back : goal.returns-clause-back
returns-clause-back c =
    let found =
    read-is_spelled c.args.bytes.now c.image_at.result (λ i. omega (arith, c.type_inv.bytes i)) c.image_at.ensures in
    read-by_version c.args.bytes.now c.image_at.result found
