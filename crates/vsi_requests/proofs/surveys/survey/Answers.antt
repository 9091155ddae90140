use Rattle.std.proofs.Common.{refl, subst}
use Rattle.vsi_subject.specs.Documents.{judgement_of}
use Rattle.vsi_subject.specs.Refusals.{FailsBy, NoOther, RefusesLattice}
use Rattle.vsi_subject.specs.Surveys.{Tally}
use Rattle.vsi_subject.proofs.Reasons.{handed, late_fails}
use Rattle.vsi_requests.proofs.surveys.survey.Goals as goal

pub returns-clause-told : goal.returns-clause-told
returns-clause-told g c =
    let holds = g.F.Files.holds c.args.subject.now.files.now in
    let l = c.in_ok-lattice.lattice in
    let counts = c.in_ok-counts.counts in
    record {
      lattice = l;
      declared = c.in_ok-lattice.ensures.read;
      accepted = counts.good;
      refused = counts.bad;
      tally = subst (λ paths. Tally holds (judgement_of c.args.asked.now.is_steady c.args.asked.now.is_strict) l paths
          counts.good counts.bad) c.as_slice-paths.ensures.value
          (subst (λ j. Tally holds j l c.as_slice-paths.result.now counts.good counts.bad) c.judgement-judged.ensures
          c.in_ok-counts.ensures.tally);
      good_is = refl;
      concludes = c.in_ok-text.ensures;
    }

pub returns-in_err-counts-clause-failed : goal.returns-in_err-counts-clause-failed
returns-in_err-counts-clause-failed g c =
    let why = RefusesLattice (g.F.Files.holds c.args.subject.now.files.now) c.args.asked.now.lattice.now in
    handed (FailsBy why NoOther) c.in_err-counts.field-0.0 c.from_residual-in_err-counts.result
    c.from_residual-in_err-counts.ensures.1
    (late_fails why NoOther c.in_err-counts.field-0.0 c.in_err-counts.ensures.failed)
