use Rattle.std.proofs.Common.{Ok, Err, refl, subst}
use Rattle.vsi_answers.specs.Requests.{ComparesTo}
use Rattle.vsi_documents.specs.Comparisons.{IsComparisonJson}
use Rattle.vsi_subject.proofs.Reasons.{handed}
use Rattle.vsi_requests.proofs.running.compare_runs.Goals as goal

pub returns-then-is_json-clause-told : goal.returns-then-is_json-clause-told
returns-then-is_json-clause-told c = rw c.if-is_json.true
    (let runs = c.args.runs.now in
    let told = c.in_ok-told.told in
    subst
    (λ w. IsComparisonJson runs.lattice runs.viewer runs.verified runs.first.items w runs.budget told.is_good
    told.text.items)
    c.deref-then-is_json.ensures.value
    (subst
    (λ w. IsComparisonJson runs.lattice runs.viewer runs.verified w c.deref-then-is_json.result.now runs.budget
    told.is_good told.text.items)
    c.deref.ensures.value c.in_ok-told.ensures.answer))

pub returns-in_err-told-clause-failed : goal.returns-in_err-told-clause-failed
returns-in_err-told-clause-failed c =
    let runs = c.args.runs.now in
    handed
    (λ reason. ComparesTo runs.lattice runs.viewer runs.verified runs.first.items runs.second.items runs.budget
    (Err reason))
    c.in_err-told.field-0.0 c.from_residual.result c.from_residual.ensures.1 c.in_err-told.ensures.answer

pub returns-clause-told : goal.returns-clause-told
returns-clause-told c = rw c.if-is_json.false
    (let runs = c.args.runs.now in
    let found = c.in_ok-found.found in
    let Told = ComparesTo runs.lattice runs.viewer runs.verified in (
      found,
      subst (λ w. Told runs.first.items w runs.budget (Ok found)) c.deref-3.ensures.value
          (subst (λ w. Told w c.deref-3.result.now runs.budget (Ok found)) c.deref-2.ensures.value
          c.in_ok-found.ensures.compares),
      refl,
      refl,
    ))

pub returns-in_err-found-clause-failed : goal.returns-in_err-found-clause-failed
returns-in_err-found-clause-failed c =
    let runs = c.args.runs.now in
    handed
    (λ reason. ComparesTo runs.lattice runs.viewer runs.verified runs.first.items runs.second.items runs.budget
    (Err reason))
    c.in_err-found.field-0.0 c.from_residual-in_err-found.result c.from_residual-in_err-found.ensures.1
    c.in_err-found.ensures.compares
