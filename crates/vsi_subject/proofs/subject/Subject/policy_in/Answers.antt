use Rattle.std.proofs.Common.{Err, subst}
use Rattle.vsi_answers.specs.Judged.{Declares}
use Rattle.vsi_answers.specs.Requests.{ReadsLattice}
use Rattle.vsi_subject.specs.Refusals.{NoOther, RefusesLattice}
use Rattle.vsi_subject.proofs.Reasons.{failed_by}
use Rattle.vsi_subject.proofs.subject.Subject.policy_in.Goals as goal

pub returns-clause-declared : goal.returns-clause-declared
returns-clause-declared g c =
    subst (λ b. Declares b c.in_ok-lattice.lattice) c.as_slice.ensures.value c.in_ok-lattice.ensures.declared

pub returns-in_err-lattice-clause-failed : goal.returns-in_err-lattice-clause-failed
returns-in_err-lattice-clause-failed g c =
    failed_by (λ reason. ReadsLattice c.as_slice.result.now (Err reason))
    (RefusesLattice (g.F.Files.holds c.args.self.now.files.now) c.args.path.now) NoOther
    (λ reason why. record {
      bytes = c.in_ok-bytes.bytes.items;
      read = c.in_ok-bytes.ensures.read;
      is = subst (λ b. ReadsLattice b (Err reason)) c.as_slice.ensures.value why;
    })
    c.from_residual-in_err-lattice.result c.in_err-lattice.field-0.0 c.from_residual-in_err-lattice.ensures.1
    c.in_err-lattice.ensures.failed
