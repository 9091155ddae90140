use Rattle.std.proofs.Common.{subst}
use Rattle.vsi_report.specs.Page.{HasPanel}
use Rattle.vsi_report.specs.Verdict.{HasVerdict}
use Rattle.vsi_subject.specs.Performed.{profile_of}
use Rattle.vsi_requests.proofs.documents.report.Goals as goal

pub returns-clause-told : goal.returns-clause-told
returns-clause-told g c =
    let page = c.in_ok-filed_page.field-0.items in
    record {
      lattice = c.in_ok-policy.classes;
      source = c.in_ok-text.text.items;
      files = record {
        lattice = record {
          policy = c.in_ok-policy.policy.items;
          read = c.in_ok-policy.ensures.read;
          declared = c.in_ok-policy.ensures.declared;
        };
        read = c.in_ok-text.ensures.read;
      };
      is = record {
        panel = subst (HasPanel page) c.as_slice-2.ensures.value c.in_ok-filed_page.ensures.panel;
        verdict = subst (λ text. HasVerdict c.in_ok-policy.classes (profile_of c.args.compilation.is_strict) text page)
            c.as_slice-2.ensures.value
            (subst (λ P. HasVerdict c.in_ok-policy.classes P c.as_slice-2.result.now page) c.profile-profile.ensures
            c.in_ok-filed_page.ensures.verdict);
      };
    }
