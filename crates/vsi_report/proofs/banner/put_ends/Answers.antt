use Rattle.std.proofs.Common.{refl}
use Rattle.vsi_report.proofs.banner.put_ends.Goals as goal

pub returns : goal.returns
returns c = rw (c.number_word.ensures) at (c.fill.ensures refl)
