use Rattle.std.proofs.Common.{rules, inl}
use Rattle.vsi_conform.proofs.conforming.refused_differences.Goals as goal

pub returns-in-Ok : goal.returns-in-Ok
returns-in-Ok c =
    inl (record {
      image = c.in-Ok.verified;
      globals = c.in-Ok.ensures.globals;
      meaning = c.in-Ok.ensures.meaning;
      code = c.in-Ok.ensures.image;
      points = c.in_ok-pair-in-Ok.ensures.points;
      bound = c.in_ok-pair-in-Ok.ensures.bound;
    })
