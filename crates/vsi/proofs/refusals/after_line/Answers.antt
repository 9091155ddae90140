use Rattle.std.proofs.Common.{inl, inr, refl}
use Rattle.vsi.proofs.refusals.after_line.Goals as goal

pub returns-in-Ok-clause-written : goal.returns-in-Ok-clause-written
returns-in-Ok-clause-written g c = inl (refl, c.in-Ok.ensures.whole)

pub returns-clause-written : goal.returns-clause-written
returns-clause-written g c = inr (c.in-Err.ensures.failure, c.write.ensures.part)
