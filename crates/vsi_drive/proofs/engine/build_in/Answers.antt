use Rattle.std.proofs.Common.{rules}
use Rattle.vsi_drive.proofs.Builds.{written_some}
use Rattle.vsi_drive.proofs.engine.build_in.Goals as goal

pub returns-clause-built : goal.returns-clause-built
returns-clause-built g c =
    written_some c.write_out.result _ _ _ c.deref-2.result.now c.in_ok-image.image.items (c.deref.result.now, search rules, c.in_ok-image.ensures.built)
    c.deref-2.ensures.value c.write_out.ensures.whole
