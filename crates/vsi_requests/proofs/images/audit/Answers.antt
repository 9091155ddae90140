use Rattle.std.proofs.Common.{inl, inr}
use Rattle.vsi_subject.specs.Refusals.{RefusesImage, RefusesLattice, FailsBy}
use Rattle.vsi_subject.specs.Reasons.{IsRefusedImage, RefusesAudit}
use Rattle.vsi_subject.proofs.Reasons.{FailsBy-weaker, handed, failed_by}
use Rattle.vsi_subject.proofs.Unrun.{Unseen}
use Rattle.vsi_requests.proofs.images.audit.Goals as goal

pub returns-clause-told : goal.returns-clause-told
returns-clause-told g c =
    record {
      audits = record {
        lattice = c.in_ok-policy.classes;
        declared = record {
          policy = c.in_ok-policy.policy.items;
          read = c.in_ok-policy.ensures.read;
          declared = c.in_ok-policy.ensures.declared;
        };
        image = c.in_ok-bytes.verified;
        held = record {
          bytes = c.in_ok-bytes.bytes.items;
          read = c.in_ok-bytes.ensures.read;
          are = c.in_ok-bytes.ensures.are;
        };
        passes = c.in_ok-judge.ensures.told;
      };
      is = rw (c.deref.ensures.value, c.deref-2.ensures.value) at c.in_ok-accepted_text.ensures;
    }

pub returns-in_err-policy-clause-failed : goal.returns-in_err-policy-clause-failed
returns-in_err-policy-clause-failed g c =
    let holds = g.F.Files.holds c.args.subject.now.files.now in
    failed_by (RefusesLattice holds c.args.asked.lattice.now)
    (Unseen holds c.args.asked.lattice.now c.args.asked.image.now) (RefusesAudit holds c.args.asked)
    (λ reason is. inl is) c.from_residual.result c.in_err-policy.field-0.0 c.from_residual.ensures.1
    c.in_err-policy.ensures.failed

pub returns-in_err-bytes-clause-failed : goal.returns-in_err-bytes-clause-failed
returns-in_err-bytes-clause-failed g c =
    let holds = g.F.Files.holds c.args.subject.now.files.now in
    failed_by (RefusesImage holds c.args.asked.image.now) (Unseen holds c.args.asked.lattice.now
    c.args.asked.image.now) (RefusesAudit holds c.args.asked) (λ reason is. inr is)
    c.from_residual-in_err-bytes.result c.in_err-bytes.field-0.0 c.from_residual-in_err-bytes.ensures.1
    c.in_err-bytes.ensures.failed

pub returns-in_err-judge-clause-failed : goal.returns-in_err-judge-clause-failed
returns-in_err-judge-clause-failed g c =
    let holds = g.F.Files.holds c.args.subject.now.files.now in
    let why = Unseen holds c.args.asked.lattice.now c.args.asked.image.now in
    let other = RefusesAudit holds c.args.asked in
    let refused = IsRefusedImage c.args.asked.is_strict c.in_ok-policy.classes c.in_ok-bytes.verified in
    handed (FailsBy why other) c.in_err-judge.field-0.0 c.from_residual-in_err-judge.result
    c.from_residual-in_err-judge.ensures.1
    (FailsBy-weaker (λ reason. ⊥) why refused other (λ reason none. absurd none)
    (λ failure is. record {
      lattice = c.in_ok-policy.classes;
      declared = record {
        policy = c.in_ok-policy.policy.items;
        read = c.in_ok-policy.ensures.read;
        declared = c.in_ok-policy.ensures.declared;
      };
      image = c.in_ok-bytes.verified;
      held = record {
        bytes = c.in_ok-bytes.bytes.items;
        read = c.in_ok-bytes.ensures.read;
        are = c.in_ok-bytes.ensures.are;
      };
      is = is;
    })
    c.in_err-judge.field-0.0 c.in_err-judge.ensures.failed)
