use Rattle.vsi_subject.proofs.Loading.{go_on}
use Rattle.vsi_subject.proofs.loaded.load.Goals as goal

pub loop-path-preserved : goal.loop-path-preserved
loop-path-preserved g c =
    go_on (g.F.Files.holds c.args.system) (g.F.Files.holds c.loop-path.loaded.system)
    (g.F.Files.holds c.take.new.self.system) c.loop-path.loaded.texts
    c.take.new.self.texts c.loop-path.invariant c.take.ensures.kept
    c.take.ensures.told

pub loop-source-preserved : goal.loop-source-preserved
loop-source-preserved g c =
    go_on (g.F.Files.holds c.args.system) (g.F.Files.holds c.loop-source.loaded.system)
    (g.F.Files.holds c.take-in-loop-source.new.self.system) c.loop-source.loaded.texts
    c.take-in-loop-source.new.self.texts c.loop-source.invariant c.take-in-loop-source.ensures.kept
    c.take-in-loop-source.ensures.told
