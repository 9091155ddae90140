use Rattle.std.proofs.Common.{sym, subst}
use Rattle.std.specs.List.{All}
use Rattle.std.proofs.lemmas.List.Elements.{All-push}
use Rattle.vsi_project.specs.Programs.{IsOf}
use Rattle.vsi_project.proofs.reader.Section.entries.Goals as goal

pub loop-start-preserved : goal.loop-start-preserved
loop-start-preserved c within =
    let Of = IsOf c.args.self.now.path.now in
    subst (All Of) (sym c.in_ok-push-2.ensures.items)
    (All-push Of c.loop-start.programs.items c.in_ok-program.program (c.loop-start.invariant within)
    (c.in_ok-program.ensures within))
