use Rattle.std.proofs.Common.{subst, sym}
use Rattle.vsi_answers.specs.Requests.{AppliesTo, MendsTo}
use Rattle.vsi_documents.specs.Answers.{TellsMended}
use Rattle.vsi_subject.specs.Files.{OfFiles}
use Rattle.vsi_subject.specs.Performed.{profile_of}
use Rattle.vsi_subject.specs.Raises.{ToldMended}
use Rattle.vsi_subject.specs.Refusals.{AsksMend, NoOther, RefusesFiles, FailsBy}
use Rattle.vsi_subject.proofs.RefusalLemmas.{judged_lattice, refuses_files}
use Rattle.vsi_subject.proofs.Ended.{good_failed, good_told}
use Rattle.vsi_requests.proofs.Written.{told_files, told_raises}
use Rattle.vsi_requests.proofs.texts.mend.Goals as goal

pub returns-in_err-classes-clause-failed : goal.returns-in_err-classes-clause-failed
returns-in_err-classes-clause-failed g c =
    let asked = c.args.asked in
    judged_lattice (g.F.Files.holds c.args.subject.now.files.now) asked.compilation
    (AsksMend asked.is_applied asked.compilation.is_strict) asked.is_json c.from_residual.result
    c.in_err-classes.field-0.0 c.from_residual.ensures.1 c.in_err-classes.ensures.failed

pub returns-then-asked-clause-told : goal.returns-then-asked-clause-told
returns-then-asked-clause-told g c = rw c.if-asked.true (record {
  lattice = c.in_ok-classes.classes;
  source = c.in_ok-classes.text.items;
  files = c.in_ok-classes.ensures.told;
  is = subst
      (λ P. TellsMended c.in_ok-classes.classes P c.in_ok-classes.text.items c.in_ok-mend_json.field-0.is_good
      c.in_ok-mend_json.field-0.text.items)
      c.profile-profile.ensures
      (subst
      (λ s. TellsMended c.in_ok-classes.classes c.profile-profile.result s c.in_ok-mend_json.field-0.is_good
      c.in_ok-mend_json.field-0.text.items)
      c.as_slice-text.ensures.value c.in_ok-mend_json.ensures.answer);
})

pub returns-then-asked-2-clause-told : goal.returns-then-asked-2-clause-told
returns-then-asked-2-clause-told g c = rw c.if-asked.false
    (let is_applied = c.args.asked.is_applied in
    let is_strict = c.args.asked.compilation.is_strict in
    let Told = ToldMended is_applied (profile_of is_strict) in
    good_told (OfFiles (g.F.Files.holds c.args.subject.now.files.now) c.args.asked.compilation Told) c.answered.result
    c.good.result c.good.ensures
    (told_files _ _ (AsksMend is_applied is_strict) Told _ _ _ c.apply.result c.answered.result
    (told_raises is_applied is_strict) c.in_ok-classes.ensures.told c.as_slice-text.ensures.value
    c.answered.ensures
    (subst (λ b. AsksMend b is_strict c.in_ok-classes.classes c.as_slice-text.result.now c.apply.result)
    (sym c.if-asked-2.true)
    (subst (λ P. AppliesTo c.in_ok-classes.classes P c.as_slice-text.result.now c.apply.result)
    c.profile-profile.ensures c.apply.ensures.applies))))

pub returns-then-asked-2-clause-failed : goal.returns-then-asked-2-clause-failed
returns-then-asked-2-clause-failed g c = rw c.if-asked.false
    (let is_strict = c.args.asked.compilation.is_strict in
    let Ask = AsksMend c.args.asked.is_applied is_strict in
    good_failed (FailsBy (RefusesFiles (g.F.Files.holds c.args.subject.now.files.now) c.args.asked.compilation Ask) NoOther)
    c.answered.result c.good.result c.good.ensures
    (refuses_files _ _ Ask _ _ _ c.apply.result c.answered.result c.in_ok-classes.ensures.told
    c.as_slice-text.ensures.value c.answered.ensures
    (subst (λ b. AsksMend b is_strict c.in_ok-classes.classes c.as_slice-text.result.now c.apply.result)
    (sym c.if-asked-2.true)
    (subst (λ P. AppliesTo c.in_ok-classes.classes P c.as_slice-text.result.now c.apply.result)
    c.profile-profile.ensures c.apply.ensures.applies))))

pub returns-clause-told : goal.returns-clause-told
returns-clause-told g c = rw c.if-asked.false
    (let is_applied = c.args.asked.is_applied in
    let is_strict = c.args.asked.compilation.is_strict in
    let Told = ToldMended is_applied (profile_of is_strict) in
    good_told (OfFiles (g.F.Files.holds c.args.subject.now.files.now) c.args.asked.compilation Told)
    c.answered-2.result c.good-2.result c.good-2.ensures
    (told_files _ _ (AsksMend is_applied is_strict) Told _ _ _ c.mend.result c.answered-2.result
    (told_raises is_applied is_strict) c.in_ok-classes.ensures.told c.as_slice-text.ensures.value
    c.answered-2.ensures
    (subst (λ b. AsksMend b is_strict c.in_ok-classes.classes c.as_slice-text.result.now c.mend.result)
    (sym c.if-asked-2.false)
    (subst (λ P. MendsTo c.in_ok-classes.classes P c.as_slice-text.result.now c.mend.result)
    c.profile-profile.ensures c.mend.ensures.mends))))

pub returns-clause-failed : goal.returns-clause-failed
returns-clause-failed g c = rw c.if-asked.false
    (let is_strict = c.args.asked.compilation.is_strict in
    let Ask = AsksMend c.args.asked.is_applied is_strict in
    good_failed (FailsBy (RefusesFiles (g.F.Files.holds c.args.subject.now.files.now) c.args.asked.compilation Ask) NoOther)
    c.answered-2.result c.good-2.result c.good-2.ensures
    (refuses_files _ _ Ask _ _ _ c.mend.result c.answered-2.result c.in_ok-classes.ensures.told
    c.as_slice-text.ensures.value c.answered-2.ensures
    (subst (λ b. AsksMend b is_strict c.in_ok-classes.classes c.as_slice-text.result.now c.mend.result)
    (sym c.if-asked-2.false)
    (subst (λ P. MendsTo c.in_ok-classes.classes P c.as_slice-text.result.now c.mend.result)
    c.profile-profile.ensures c.mend.ensures.mends))))
