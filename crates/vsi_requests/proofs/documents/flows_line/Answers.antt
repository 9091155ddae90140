use Rattle.vsi_subject.specs.Performed.{profile_of}
use Rattle.vsi_requests.proofs.Documented.{flows_so}
use Rattle.vsi_requests.proofs.documents.flows_line.Goals as goal

pub returns-clause-told : goal.returns-clause-told
returns-clause-told g c = record {
  lattice = c.in_ok-classes.classes;
  source = c.in_ok-classes.text.items;
  files = c.in_ok-classes.ensures.told;
  is = flows_so c.in_ok-classes.classes c.profile-profile.result (profile_of c.args.compilation.is_strict)
      c.as_slice.result.now c.in_ok-classes.text.items c.in_ok-flows_json.field-0.is_good c.in_ok-flows_json.field-0.text.items
      c.profile-profile.ensures c.as_slice.ensures.value c.in_ok-flows_json.ensures.answer;
}
