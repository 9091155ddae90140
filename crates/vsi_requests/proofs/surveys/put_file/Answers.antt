use Rattle.std.proofs.Common.{subst}
use Rattle.vsi_subject.specs.Surveys.{IsVerdict}
use Rattle.vsi_requests.proofs.surveys.put_file.Goals as goal

pub returns-clause-told : goal.returns-clause-told
returns-clause-told g c = record {
  source = c.in_ok-bytes.bytes.items;
  read = c.in_ok-bytes.ensures.read;
  is = subst (λ t. IsVerdict c.args.judgement c.args.lattice.now t c.in_ok-is_accepted.is_accepted)
      c.as_slice-text.ensures.value c.in_ok-is_accepted.ensures;
}
