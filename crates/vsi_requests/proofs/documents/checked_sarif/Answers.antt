use Rattle.vsi_subject.specs.Documents.{judgement_of}
use Rattle.vsi_requests.proofs.Documented.{sarif_so}
use Rattle.vsi_requests.proofs.documents.checked_sarif.Goals as goal

pub returns-clause-told : goal.returns-clause-told
returns-clause-told g c = record {
  lattice = c.in_ok-classes.classes;
  source = c.in_ok-classes.text.items;
  files = c.in_ok-classes.ensures.told;
  is = sarif_so c.in_ok-classes.classes c.judgement-judged.result
      (judgement_of c.args.asked.is_steady c.args.asked.compilation.is_strict)
      c.args.asked.compilation.source.now c.as_slice.result.now c.in_ok-classes.text.items
      c.in_ok-check_sarif.field-0.is_good c.in_ok-check_sarif.field-0.text.items c.judgement-judged.ensures c.as_slice.ensures.value
      c.in_ok-check_sarif.ensures.answer;
}
