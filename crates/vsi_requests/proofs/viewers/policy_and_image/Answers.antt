use Rattle.std.proofs.Common.{Err, inl, inr, refl, subst}
use Rattle.vsi_answers.specs.Judged.{Declares}
use Rattle.vsi_answers.specs.Requests.{ReadsLattice}
use Rattle.vsi_subject.specs.Refusals.{LacksClassAt, RefusesImage}
use Rattle.vsi_subject.proofs.Reasons.{failed_by, late_failed}
use Rattle.vsi_subject.specs.declared.failure.Failure.TheVariants.{Memory}
use Rattle.vsi_subject.proofs.Unrun.{Unseen, lacks_failed, memory_failed}
use Rattle.vsi_requests.proofs.viewers.policy_and_image.Goals as goal

pub returns-clause-looks : goal.returns-clause-looks
returns-clause-looks g c = record {
  lattice = record {
    policy = c.in_ok-bytes.bytes.items;
    read = c.in_ok-bytes.ensures.read;
    declared = subst (λ text. Declares text c.in_ok-classes.classes) c.as_slice-2.ensures.value
        c.in_ok-classes.ensures.declared;
  };
  named = c.in_ok-viewer.ensures.named;
  is = c.in_ok-viewer.ensures.within;
}

pub returns-clause-held : goal.returns-clause-held
returns-clause-held g c =
    c.in_ok-verified.ensures.read

pub returns-in_err-bytes-clause-failed : goal.returns-in_err-bytes-clause-failed
returns-in_err-bytes-clause-failed g c =
    let holds = g.F.Files.holds c.args.subject.now.files.now in
    late_failed (Unseen holds c.args.lattice.now c.args.image.now)
    (LacksClassAt holds c.args.lattice.now c.args.class.now) c.from_residual.result c.in_err-bytes.field-0.0
    c.from_residual.ensures.1 c.in_err-bytes.ensures.failed

pub returns-in_err-text-clause-failed : goal.returns-in_err-text-clause-failed
returns-in_err-text-clause-failed g c =
    let holds = g.F.Files.holds c.args.subject.now.files.now in
    memory_failed (Unseen holds c.args.lattice.now c.args.image.now)
    (LacksClassAt holds c.args.lattice.now c.args.class.now) c.from_residual-in_err-text.result Memory
    c.from_residual-in_err-text.ensures.1 refl

pub returns-in_err-classes-clause-failed : goal.returns-in_err-classes-clause-failed
returns-in_err-classes-clause-failed g c =
    let holds = g.F.Files.holds c.args.subject.now.files.now in
    failed_by (λ reason. ReadsLattice c.as_slice-2.result.now (Err reason))
    (Unseen holds c.args.lattice.now c.args.image.now) (LacksClassAt holds c.args.lattice.now c.args.class.now)
    (λ reason why. inl (record {
      bytes = c.in_ok-bytes.bytes.items;
      read = c.in_ok-bytes.ensures.read;
      is = subst (λ text. ReadsLattice text (Err reason)) c.as_slice-2.ensures.value why;
    }))
    c.from_residual-in_err-classes.result c.in_err-classes.field-0.0 c.from_residual-in_err-classes.ensures.1
    c.in_err-classes.ensures.failed

pub returns-in_err-viewer-clause-failed : goal.returns-in_err-viewer-clause-failed
returns-in_err-viewer-clause-failed g c =
    let holds = g.F.Files.holds c.args.subject.now.files.now in
    lacks_failed holds c.args.lattice.now c.args.class.now (Unseen holds c.args.lattice.now c.args.image.now)
    c.in_ok-classes.classes c.from_residual-in_err-viewer.result c.in_err-viewer.field-0.0
    (record {
      policy = c.in_ok-bytes.bytes.items;
      read = c.in_ok-bytes.ensures.read;
      declared = subst (λ text. Declares text c.in_ok-classes.classes) c.as_slice-2.ensures.value
          c.in_ok-classes.ensures.declared;
    })
    c.from_residual-in_err-viewer.ensures.1 c.in_err-viewer.ensures.failed

pub returns-in_err-verified-clause-failed : goal.returns-in_err-verified-clause-failed
returns-in_err-verified-clause-failed g c =
    let holds = g.F.Files.holds c.args.subject.now.files.now in
    failed_by (RefusesImage holds c.args.image.now) (Unseen holds c.args.lattice.now c.args.image.now) (LacksClassAt
    holds c.args.lattice.now c.args.class.now) (λ reason is. inr is) c.from_residual-in_err-verified.result
    c.in_err-verified.field-0.0 c.from_residual-in_err-verified.ensures.1 c.in_err-verified.ensures.failed
