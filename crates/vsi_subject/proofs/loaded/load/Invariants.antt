use Rattle.std.proofs.Common.{◌≡◌}
use Rattle.vsi_subject.specs.Loading.{AreRead}
use Rattle.vsi_subject.proofs.loaded.load.Given as goal

abbrev pub invariant-loop-path : goal.invariant-loop-path
invariant-loop-path g l =
    (g.F.Files.holds l.loaded.system ≡ g.F.Files.holds l.fn.system) × AreRead (g.F.Files.holds l.fn.system) l.loaded.texts

abbrev pub invariant-loop-source : goal.invariant-loop-source
invariant-loop-source g l =
    (g.F.Files.holds l.loaded.system ≡ g.F.Files.holds l.fn.system) × AreRead (g.F.Files.holds l.fn.system) l.loaded.texts
