use Rattle.std.proofs.Common.{refl, subst}
use Rattle.vsi_subject.specs.Projects.{AreChosen, IsFaulty}
use Rattle.vsi_subject.specs.Reasons.{RefusesSome}
use Rattle.vsi_subject.specs.Refusals.{FailsBy}
use Rattle.vsi_subject.proofs.Reasons.{FailsBy-weaker, fails_by, handed}
use Rattle.vsi_requests.proofs.projects.project.Goals as goal

pub returns-clause-told : goal.returns-clause-told
returns-clause-told g c =
    let chosen = c.in_ok-programs.programs.now in
    let counts = c.in_ok-counts.counts in
    record {
      bytes = c.in_ok-bytes.bytes.items;
      read = c.in_ok-bytes.ensures.read;
      programs = c.in_ok-project.project.programs.items;
      chosen = chosen;
      are = subst (λ all. AreChosen c.args.asked.name all chosen) c.as_slice-all.ensures.value
          c.in_ok-programs.ensures.chosen;
      right = counts.good;
      wrong = counts.bad;
      judges = c.in_ok-counts.ensures.judges;
      good_is = refl;
      concludes = c.in_ok-text.ensures;
    }

pub returns-in_err-project-clause-failed : goal.returns-in_err-project-clause-failed
returns-in_err-project-clause-failed g c =
    let why = RefusesSome (g.F.Files.holds c.args.subject.now.files.now) in
    handed (FailsBy why IsFaulty) c.in_err-project.field-0.0 c.from_residual-in_err-project.result
    c.from_residual-in_err-project.ensures.1
    (FailsBy-weaker (λ reason. ⊥) why IsFaulty IsFaulty (λ reason none. absurd none) (λ failure is. is)
    c.in_err-project.field-0.0 c.in_err-project.ensures)

pub returns-in_err-programs-clause-failed : goal.returns-in_err-programs-clause-failed
returns-in_err-programs-clause-failed g c =
    let why = RefusesSome (g.F.Files.holds c.args.subject.now.files.now) in
    handed (FailsBy why IsFaulty) c.in_err-programs.field-0.0 c.from_residual-in_err-programs.result
    c.from_residual-in_err-programs.ensures.1
    (fails_by (λ reason. ⊥) why IsFaulty (λ reason none. absurd none) c.in_err-programs.field-0.0
    c.in_err-programs.ensures.failed)

pub returns-in_err-counts-clause-failed : goal.returns-in_err-counts-clause-failed
returns-in_err-counts-clause-failed g c =
    let why = RefusesSome (g.F.Files.holds c.args.subject.now.files.now) in
    handed (FailsBy why IsFaulty) c.in_err-counts.field-0.0 c.from_residual-in_err-counts.result
    c.from_residual-in_err-counts.ensures.1
    (fails_by why why IsFaulty (λ reason is. is) c.in_err-counts.field-0.0 c.in_err-counts.ensures.failed)
