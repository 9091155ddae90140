use Rattle.std.proofs.Common.{subst, sym}
use Rattle.vsi_answers.specs.Requests.{ChecksTo}
use Rattle.vsi_conform.specs.Checking.{TellsAnswer}
use Rattle.vsi_subject.specs.Files.{OfFiles}
use Rattle.vsi_subject.specs.Documents.{judgement_of}
use Rattle.vsi_subject.specs.Performed.{ToldAccepted}
use Rattle.vsi_subject.specs.Refusals.{AsksCheck, NoOther, RefusesFiles, FailsBy}
use Rattle.vsi_subject.proofs.RefusalLemmas.{judged_lattice, refuses_files}
use Rattle.vsi_subject.proofs.Ended.{good_failed, good_told}
use Rattle.vsi_requests.proofs.Written.{told_accepted, told_files}
use Rattle.vsi_requests.proofs.texts.check.Goals as goal

pub returns-in_err-classes-clause-failed : goal.returns-in_err-classes-clause-failed
returns-in_err-classes-clause-failed g c =
    let asked = c.args.asked in
    judged_lattice (g.F.Files.holds c.args.subject.now.files.now) asked.compilation
    (AsksCheck asked.is_steady asked.compilation.is_strict) asked.is_json c.from_residual.result
    c.in_err-classes.field-0.0 c.from_residual.ensures.1 c.in_err-classes.ensures.failed

pub returns-then-asked-clause-told : goal.returns-then-asked-clause-told
returns-then-asked-clause-told g c = rw c.if-asked.true (record {
  lattice = c.in_ok-classes.classes;
  source = c.in_ok-classes.text.items;
  files = c.in_ok-classes.ensures.told;
  is = subst
      (λ s. TellsAnswer c.in_ok-classes.classes
      (judgement_of c.args.asked.is_steady c.args.asked.compilation.is_strict) s
      c.in_ok-checked.checked.is_accepted c.in_ok-checked.checked.line.items)
      c.as_slice-text.ensures.value
      (subst
      (λ j. TellsAnswer c.in_ok-classes.classes j c.as_slice-text.result.now
      c.in_ok-checked.checked.is_accepted c.in_ok-checked.checked.line.items)
      c.judgement-judged.ensures c.in_ok-checked.ensures.answer);
})

pub returns-then-asked-2-clause-told : goal.returns-then-asked-2-clause-told
returns-then-asked-2-clause-told g c = rw c.if-asked.false
    (let is_steady = c.args.asked.is_steady in
    let is_strict = c.args.asked.compilation.is_strict in
    good_told (OfFiles (g.F.Files.holds c.args.subject.now.files.now) c.args.asked.compilation (ToldAccepted is_steady is_strict))
    c.answered.result c.good.result c.good.ensures
    (told_files _ _ (AsksCheck is_steady is_strict) (ToldAccepted is_steady is_strict) _ _ _ c.check_steady.result
    c.answered.result (told_accepted is_steady is_strict) c.in_ok-classes.ensures.told c.as_slice-text.ensures.value
    c.answered.ensures
    (subst
    (λ b. AsksCheck b is_strict c.in_ok-classes.classes c.as_slice-text.result.now c.check_steady.result)
    (sym c.if-asked-2.true) c.check_steady.ensures.checks)))

pub returns-then-asked-2-clause-failed : goal.returns-then-asked-2-clause-failed
returns-then-asked-2-clause-failed g c = rw c.if-asked.false
    (let is_strict = c.args.asked.compilation.is_strict in
    let Ask = AsksCheck c.args.asked.is_steady is_strict in
    good_failed (FailsBy (RefusesFiles (g.F.Files.holds c.args.subject.now.files.now) c.args.asked.compilation Ask) NoOther)
    c.answered.result c.good.result c.good.ensures
    (refuses_files _ _ Ask _ _ _ c.check_steady.result c.answered.result c.in_ok-classes.ensures.told
    c.as_slice-text.ensures.value c.answered.ensures
    (subst
    (λ b. AsksCheck b is_strict c.in_ok-classes.classes c.as_slice-text.result.now c.check_steady.result)
    (sym c.if-asked-2.true) c.check_steady.ensures.checks)))

pub returns-clause-told : goal.returns-clause-told
returns-clause-told g c = rw c.if-asked.false
    (let is_steady = c.args.asked.is_steady in
    let is_strict = c.args.asked.compilation.is_strict in
    good_told (OfFiles (g.F.Files.holds c.args.subject.now.files.now) c.args.asked.compilation (ToldAccepted is_steady is_strict))
    c.answered-2.result c.good-2.result c.good-2.ensures
    (told_files _ _ (AsksCheck is_steady is_strict) (ToldAccepted is_steady is_strict) _ _ _ c.check.result
    c.answered-2.result (told_accepted is_steady is_strict) c.in_ok-classes.ensures.told
    c.as_slice-text.ensures.value c.answered-2.ensures
    (subst (λ b. AsksCheck b is_strict c.in_ok-classes.classes c.as_slice-text.result.now c.check.result)
    (sym c.if-asked-2.false)
    (subst (λ P. ChecksTo c.in_ok-classes.classes P c.as_slice-text.result.now c.check.result)
    c.profile-profile.ensures c.check.ensures.checks))))

pub returns-clause-failed : goal.returns-clause-failed
returns-clause-failed g c = rw c.if-asked.false
    (let is_strict = c.args.asked.compilation.is_strict in
    let Ask = AsksCheck c.args.asked.is_steady is_strict in
    good_failed (FailsBy (RefusesFiles (g.F.Files.holds c.args.subject.now.files.now) c.args.asked.compilation Ask) NoOther)
    c.answered-2.result c.good-2.result c.good-2.ensures
    (refuses_files _ _ Ask _ _ _ c.check.result c.answered-2.result c.in_ok-classes.ensures.told
    c.as_slice-text.ensures.value c.answered-2.ensures
    (subst (λ b. AsksCheck b is_strict c.in_ok-classes.classes c.as_slice-text.result.now c.check.result)
    (sym c.if-asked-2.false)
    (subst (λ P. ChecksTo c.in_ok-classes.classes P c.as_slice-text.result.now c.check.result)
    c.profile-profile.ensures c.check.ensures.checks))))
