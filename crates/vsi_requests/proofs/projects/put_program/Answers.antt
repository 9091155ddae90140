use Rattle.std.proofs.Common.{subst}
use Rattle.vsi_lattice.specs.LatticeView.{class_named, order}
use Rattle.vsi_conform.specs.Conforms.{IsAcceptedAs}
use Rattle.vsi_subject.specs.Holding.{IsLatticeAt, IsReadAt}
use Rattle.vsi_subject.specs.Projects.{MeetsAll}
use Rattle.vsi_subject.specs.Reasons.{RefusesSome}
use Rattle.vsi_subject.specs.Refusals.{NoOther, RefusesLattice}
use Rattle.vsi_subject.proofs.Reasons.{failed_by}
use Rattle.vsi_requests.proofs.Surveyed.{image_accepted}
use Rattle.vsi_requests.proofs.projects.put_program.Goals as goal

pub returns-clause-told : goal.returns-clause-told
returns-clause-told g c = λ right.
    let holds = g.F.Files.holds c.args.subject.now.files.now in
    let l = c.in_ok-lattice.lattice in
    let source = c.in_ok-bytes.bytes.items in
    let made = c.in_ok-is_right.ensures.told right in
    record {
      lattice = l;
      declared = subst (λ p. IsLatticeAt holds p l) c.as_str-policy.ensures.value c.in_ok-lattice.ensures.read;
      source = source;
      read = subst (λ p. IsReadAt holds p source) c.as_str-path.ensures.value c.in_ok-bytes.ensures.read;
      image = made.0;
      accepted = subst (λ j. IsAcceptedAs (class_named l) (order l) j source made.0) c.judgement-judgement.ensures
          (subst (λ t. IsAcceptedAs (class_named l) (order l) c.judgement-judgement.result t made.0)
          c.as_slice-text.ensures.value
          (image_accepted l c.judgement-judgement.result c.as_slice-text.result.now c.in_ok-found.found made.0 made.1
          c.in_ok-found.ensures));
      meets = subst (λ t. MeetsAll holds c.args.budget c.args.program.now t made.0) c.as_slice-text.ensures.value made.2;
    }

pub returns-in_err-lattice-clause-failed : goal.returns-in_err-lattice-clause-failed
returns-in_err-lattice-clause-failed g c =
    let holds = g.F.Files.holds c.args.subject.now.files.now in
    let p = c.as_str-policy.result.now in
    failed_by (RefusesLattice holds p) (RefusesSome holds) NoOther (λ reason is. (p, is)) c.from_residual.result
    c.in_err-lattice.field-0.0 c.from_residual.ensures.1 c.in_err-lattice.ensures.failed
