use Rattle.std.proofs.Common.{sym, ◌∙◌}
use Rattle.vsi_conform.proofs.BoundLines.{nothing_reported}
use Rattle.vsi_conform.proofs.conforming.image_differences.Goals as goal

pub returns-then-not-demands_bound : goal.returns-then-not-demands_bound
returns-then-not-demands_bound c =
    record {
      points = c.in_ok-points.ensures.points;
      bound =
          nothing_reported c.args.interface.now.bounded c.args.verified.now
          (sym c.demands_bound.ensures.demands ∙ c.if-not-demands_bound.true);
    }
