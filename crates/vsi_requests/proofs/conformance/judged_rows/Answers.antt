use Rattle.std.proofs.Common.{◌∙◌, map, sym, subst}
use Rattle.vsi_conform.specs.ImageLines.{AreImageRows}
use Rattle.vsi_conform.specs.Rows.{row}
use Rattle.vsi_subject.specs.Reasons.{RefusesBytes}
use Rattle.vsi_subject.specs.Refusals.{NoOther}
use Rattle.vsi_subject.proofs.Conforming.{is_verdict}
use Rattle.vsi_subject.proofs.Reasons.{handed_reason}
use Rattle.vsi_requests.proofs.conformance.judged_rows.Goals as goal

pub returns-in_err-verified-clause-failed : goal.returns-in_err-verified-clause-failed
returns-in_err-verified-clause-failed c =
    handed_reason (RefusesBytes c.args.bytes.now) NoOther c.in_err-verified.field-0.0 c.from_residual.result
    c.from_residual.ensures.1 (sym c.requires ∙ c.if-is_image.true, c.in_err-verified.ensures.image)

pub returns-then-is_image-clause-told : goal.returns-then-is_image-clause-told
returns-then-is_image-clause-told c = rw c.if-is_image.true (
  c.in_ok-verified.verified,
  c.in_ok-verified.ensures.image,
  record {
    answer = c.in_ok-answer.answer;
    tells = c.in_ok-answer.ensures.told;
    verdict = sym c.conforms-conforms.ensures;
    is = λ is. c.in_ok-answer.ensures.conforms (sym c.conforms-conforms.ensures ∙ is);
    are = subst (λ im. AreImageRows c.args.lattice.now im c.args.interface.now
        c.in_ok-answer.answer (map row c.in_ok-rows.rows.items)) c.image.ensures.same c.in_ok-rows.ensures.rows;
  },
)

pub returns-clause-told : goal.returns-clause-told
returns-clause-told c = rw c.if-is_image.false (record {
  answer = c.in_ok-answer-2.answer;
  tells = c.in_ok-answer-2.ensures.told;
  verdict = sym c.conforms.ensures;
  is = is_verdict c.conforms.result c.in_ok-answer-2.answer.unbounded c.args.lattice.now c.args.bytes.now
      c.args.interface.now (λ is. c.in_ok-answer-2.ensures.conforms (sym c.conforms.ensures ∙ is))
      (λ is none. c.conforms.ensures ∙ c.in_ok-answer-2.ensures.exact is none) c.in_ok-answer-2.ensures.bound;
  are = c.in_ok-rows-2.ensures.rows;
})
