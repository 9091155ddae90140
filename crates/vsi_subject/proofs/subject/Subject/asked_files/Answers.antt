use Rattle.std.proofs.Common.{Err, subst}
use Rattle.vsi_answers.specs.Requests.{ReadsLattice}
use Rattle.vsi_conform.specs.Reading.{IsReadAs}
use Rattle.vsi_subject.specs.Undriven.{IsUnusable, RefusesAsked}
use Rattle.vsi_subject.proofs.Conforming.{refuses_policy}
use Rattle.vsi_subject.proofs.Reasons.{failed_by}
use Rattle.vsi_subject.proofs.subject.Subject.asked_files.Goals as goal

pub returns-in_err-lattice-clause-failed : goal.returns-in_err-lattice-clause-failed
returns-in_err-lattice-clause-failed g c =
    let holds = g.F.Files.holds c.args.self.now.files.now in
    failed_by (λ reason. ReadsLattice c.deref-2.result.now (Err reason)) (RefusesAsked holds c.args.path.now)
    IsUnusable
    (λ reason why. record {
      asked = c.in-Ok.found;
      interface = record {
        bytes = c.in_ok-bytes.bytes.items;
        read = c.in_ok-bytes.ensures.read;
        is = subst (λ b. IsReadAs b c.in-Ok.found) c.deref.ensures.value c.in-Ok.ensures.read;
        inside = c.in-Ok.ensures.inside;
      };
      refused = refuses_policy holds c.args.path.now c.in-Ok.found.policy c.in_ok-policy.policy.items reason
          c.in_ok-policy.ensures.are
          (subst (λ b. ReadsLattice b (Err reason)) c.deref-2.ensures.value why);
    })
    c.from_residual-in_err-lattice.result c.in_err-lattice.field-0.0 c.from_residual-in_err-lattice.ensures.1
    c.in_err-lattice.ensures.failed
