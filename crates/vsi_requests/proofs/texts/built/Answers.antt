use Rattle.vsi_answers.specs.Requests.{BuildsTo}
use Rattle.vsi_subject.specs.Refusals.{AsksImage}
use Rattle.vsi_subject.proofs.RefusalLemmas.{refuses_by, refuses_lattice}
use Rattle.vsi_requests.proofs.Written.{told_by}
use Rattle.vsi_requests.proofs.texts.built.Goals as goal

pub returns-in_err-classes-clause-failed : goal.returns-in_err-classes-clause-failed
returns-in_err-classes-clause-failed g c =
    refuses_lattice (g.F.Files.holds c.args.subject.now.files.now) c.args.compilation (AsksImage c.args.compilation.is_strict)
    c.from_residual.result c.in_err-classes.field-0.0 c.from_residual.ensures.1 c.in_err-classes.ensures.failed

pub returns-clause-told : goal.returns-clause-told
returns-clause-told g c =
    told_by _ _ BuildsTo _ _ _ _ c.build.result c.answered.result c.in_ok-classes.ensures.told
    c.as_slice-text.ensures.value c.profile-profile.ensures c.answered.ensures c.build.ensures.builds

pub returns-clause-failed : goal.returns-clause-failed
returns-clause-failed g c =
    refuses_by _ _ (λ l P s a. BuildsTo l P s a) _ _ _ _ c.build.result c.answered.result c.in_ok-classes.ensures.told
    c.as_slice-text.ensures.value c.profile-profile.ensures c.answered.ensures c.build.ensures.builds
