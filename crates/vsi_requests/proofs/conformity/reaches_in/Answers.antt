use Rattle.std.proofs.Common.{map, subst}
use Rattle.vsi_conform.specs.Reaching.{released}
use Rattle.vsi_conform.specs.Reading.{cycle}
use Rattle.vsi_conform.specs.ImageReaching.{AreImageReleased}
use Rattle.vsi_requests.proofs.conformity.reaches_in.Goals as goal

pub returns : goal.returns
returns c = record {
  reaches = rw c.if-not-is_image.false (
    c.in-Ok.verified,
    c.in-Ok.ensures.image,
    subst
        (λ cs. AreImageReleased c.args.lattice.now c.args.asked.now.interface.judgement c.in-Ok.verified
        (map cycle cs) (map released c.in_ok-image_reaches.field-0.items)) c.deref-2.ensures.value
        c.in_ok-image_reaches.ensures.reaches,
  );
}
