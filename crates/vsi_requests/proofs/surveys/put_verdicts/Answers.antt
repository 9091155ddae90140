use Rattle.std.proofs.Common.{arith, refl, subst}
use Rattle.std.proofs.lemmas.List.{take_all}
use Rattle.vsi_subject.specs.Surveys.{NONE, Tally}
use Rattle.vsi_requests.proofs.Surveyed.{all_more, tally_next}
use Rattle.vsi_requests.proofs.surveys.put_verdicts.Goals as goal

pub loop-path-init : goal.loop-path-init
loop-path-init g c = record { tally = NONE; all = refl }

pub loop-path-preserved : goal.loop-path-preserved
loop-path-preserved g c =
    let j = c.args.judgement in
    let l = c.args.lattice.now in
    let b = c.in_ok-is_accepted.is_accepted in
    record {
      tally = tally_next (g.F.Files.holds c.args.subject.now.files.now) j l c.args.paths.now c.loop-path.path-index
          _ b c.loop-path.counts.good c.loop-path.counts.bad c.plus-more.result.good
          c.plus-more.result.bad c.loop-path-test.true
          (record { good = c.plus-more.ensures.good; bad = c.plus-more.ensures.bad })
          c.loop-path.invariant.tally c.in_ok-is_accepted.ensures.told;
      all = all_more b c.loop-path.counts.good c.loop-path.counts.bad c.plus-more.result.good
          c.plus-more.result.bad c.loop-path.path-index
          (record { good = c.plus-more.ensures.good; bad = c.plus-more.ensures.bad }) c.loop-path.invariant.all;
    }

pub returns-clause-tally : goal.returns-clause-tally
returns-clause-tally g c =
    subst (λ paths. Tally (g.F.Files.holds c.args.subject.now.files.now) c.args.judgement c.args.lattice.now paths
    c.loop-path.counts.good c.loop-path.counts.bad)
    (take_all c.loop-path.path-index c.args.paths.now (omega (arith, c.loop-path-test.false)))
    c.loop-path.invariant.tally
