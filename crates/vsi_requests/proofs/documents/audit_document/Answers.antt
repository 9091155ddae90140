use Rattle.std.proofs.Common.{inl, inr, subst}
use Rattle.vsi_documents.specs.Auditing as sarif
use Rattle.vsi_documents.specs.Audits.{TellsJudged}
use Rattle.vsi_subject.specs.Refusals.{NoOther, RefusesImage, RefusesLattice}
use Rattle.vsi_subject.proofs.Reasons.{failed_by}
use Rattle.vsi_subject.proofs.Unrun.{Unseen}
use Rattle.vsi_requests.proofs.documents.audit_document.Goals as goal

pub returns-then-is_sarif-clause-told : goal.returns-then-is_sarif-clause-told
returns-then-is_sarif-clause-told g c = rw c.if-is_sarif.true (record {
  lattice = c.in_ok-classes.classes;
  declared = c.in_ok-classes.ensures.read;
  image = c.in_ok-verified.verified;
  held = c.in_ok-verified.ensures.read;
  is = subst
      (λ j. sarif.TellsJudged c.in_ok-classes.classes j c.args.asked.image.now c.in_ok-verified.verified
      c.in_ok-audit_sarif.field-0.is_good c.in_ok-audit_sarif.field-0.text.items)
      c.judgement-judged.ensures c.in_ok-audit_sarif.ensures.answer;
})

pub returns-clause-told : goal.returns-clause-told
returns-clause-told g c = rw c.if-is_sarif.false (record {
  lattice = c.in_ok-classes.classes;
  declared = c.in_ok-classes.ensures.read;
  image = c.in_ok-verified.verified;
  held = c.in_ok-verified.ensures.read;
  is = subst
      (λ j. TellsJudged c.in_ok-classes.classes j c.in_ok-verified.verified c.in_ok-audit_json.field-0.is_good
      c.in_ok-audit_json.field-0.text.items)
      c.judgement-judged.ensures c.in_ok-audit_json.ensures.answer;
})

pub returns-in_err-classes-clause-failed : goal.returns-in_err-classes-clause-failed
returns-in_err-classes-clause-failed g c =
    let holds = g.F.Files.holds c.args.subject.now.files.now in
    failed_by (RefusesLattice holds c.args.asked.lattice.now)
    (Unseen holds c.args.asked.lattice.now c.args.asked.image.now) NoOther
    (λ reason is. inl is) c.from_residual.result c.in_err-classes.field-0.0 c.from_residual.ensures.1
    c.in_err-classes.ensures.failed

pub returns-in_err-verified-clause-failed : goal.returns-in_err-verified-clause-failed
returns-in_err-verified-clause-failed g c =
    let holds = g.F.Files.holds c.args.subject.now.files.now in
    failed_by (RefusesImage holds c.args.asked.image.now) (Unseen holds c.args.asked.lattice.now
    c.args.asked.image.now) NoOther (λ reason is. inr is) c.from_residual-in_err-verified.result
    c.in_err-verified.field-0.0 c.from_residual-in_err-verified.ensures.1 c.in_err-verified.ensures.failed
