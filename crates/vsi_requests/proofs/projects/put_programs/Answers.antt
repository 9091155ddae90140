use Rattle.std.proofs.Common.{arith, refl, subst}
use Rattle.std.proofs.lemmas.List.{take_all}
use Rattle.vsi_subject.specs.Projects.{Judges, NONE}
use Rattle.vsi_requests.proofs.Surveyed.{all_more, judges_more}
use Rattle.vsi_requests.proofs.projects.put_programs.Goals as goal

pub loop-program-init : goal.loop-program-init
loop-program-init g c = record { judges = NONE; all = refl }

pub loop-program-preserved : goal.loop-program-preserved
loop-program-preserved g c =
    let b = c.in_ok-is_right.is_right in
    record {
      judges = judges_more (g.F.Files.holds c.args.subject.now.files.now) c.args.budget c.args.programs.now
          c.loop-program.program-index c.program-item.result b c.loop-program.counts.good c.loop-program.counts.bad
          c.plus-more.result.good c.plus-more.result.bad c.loop-program-test.true c.program-item.is
          (record { good = c.plus-more.ensures.good; bad = c.plus-more.ensures.bad })
          c.loop-program.invariant.judges c.in_ok-is_right.ensures.told;
      all = all_more b c.loop-program.counts.good c.loop-program.counts.bad c.plus-more.result.good
          c.plus-more.result.bad c.loop-program.program-index
          (record { good = c.plus-more.ensures.good; bad = c.plus-more.ensures.bad }) c.loop-program.invariant.all;
    }

pub returns-clause-judges : goal.returns-clause-judges
returns-clause-judges g c =
    subst (λ programs. Judges (g.F.Files.holds c.args.subject.now.files.now) c.args.budget programs
    c.loop-program.counts.good c.loop-program.counts.bad)
    (take_all c.loop-program.program-index c.args.programs.now (omega (arith, c.loop-program-test.false)))
    c.loop-program.invariant.judges
