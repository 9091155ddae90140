use Rattle.std.proofs.Common.{refl}
use Rattle.vsi_layered.proofs.Sizes.{apart_more, within_more}
use Rattle.vsi_layered.proofs.drawing.are_laid_out.Goals as goal

pub loop-place-preserved : goal.loop-place-preserved
loop-place-preserved c = (
  within_more c.args.frame c.args.places.now c.loop-place.place _ c.loop-place-test.true
      (c.if-not-is_within.ensures refl) c.loop-place.invariant.0,
  apart_more c.args.places.now c.loop-place.place (c.if-not-is_apart_from_first.ensures refl)
      c.loop-place.invariant.1,
)
