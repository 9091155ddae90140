use Rattle.std.proofs.Common.{◌≡◌, ◌∙◌, Some, None, inl, inr, refl, sym, ap, subst, length}
use Rattle.vsi_drive.specs.BoundaryFaults.{boundary_fault}
use Rattle.vsi_drive.specs.Control.{control, controlled}
use Rattle.vsi_drive.specs.Views.{view_of}
use Rattle.vsi_subject.specs.declared.failure.Failure.TheVariants.{Memory}
use Rattle.vsi_lattice.specs.NamePlaces.{texts}
use Rattle.vsi_subject.specs.Boundaries.{boundary_for}
use Rattle.vsi_requests.specs.ReadNames.{boundary_in}
use Rattle.vsi_subject.specs.Feeding.{AreFed}
use Rattle.vsi_subject.specs.Reasons.{WhyViewWithin}
use Rattle.vsi_subject.specs.Undriven.{LacksView}
use Rattle.vsi_subject.proofs.CarriedOut.{each_failure}
use Rattle.vsi_subject.proofs.Reasons.{late_failed}
use Rattle.vsi_subject.proofs.Unrun.{begins_at, memory_failed, start_failed, unbounded_failed}
use Rattle.vsi_requests.proofs.Undriven.{steered_lattice}
use Rattle.vsi_requests.proofs.Viewed.{control_failed, unfed_failed, unviewed_failed, view_short}
use Rattle.vsi_requests.proofs.steering.view_within.Goals as goal

pub returns-clause-told : goal.returns-clause-told
returns-clause-told g c =
    let asked = c.args.asked.now in
    let l = c.in_ok-steering.steering.lattice in
    let viewer = c.in_ok-steering.steering.driver in
    let image = c.in_ok-steering.steering.verified in
    let budget = c.in_ok-budget.budget in
    let b = boundary_for asked.policy c.in_ok-steering.steering.cycle in
    record {
      lattice = l;
      viewer = viewer;
      image = image;
      boundary = b;
      viewed = c.in_ok-steering.ensures.steered;
      words = c.in_ok-words.words.items;
      begins = begins_at (g.F.Files.holds c.args.subject.now.files.now) asked.execution asked.initial_store image
          c.in_ok-file.file.items c.deref.result.now c.in_ok-words.words.items c.in_ok-steering.ensures.held
          c.in_ok-file.ensures.read
          c.deref.ensures.value c.in_ok-words.ensures.begins c.in_ok-words.ensures.len;
      fed = subst
          (λ own. AreFed asked.policy l viewer image own (texts asked.initial_store.settings.items))
          c.in_ok-names.ensures
          (subst (λ ss. AreFed asked.policy l viewer image (boundary_in c.in_ok-names.names) (texts ss))
          c.as_slice-settings.ensures.value c.in_ok-feed.ensures.fed);
      budget = budget;
      within = c.in_ok-budget.ensures.budget;
      admitted = c.in_ok-admit.ensures.admitted;
      sound = subst (λ k. boundary_fault k ≡ None) c.in_ok-controller.ensures.control
          c.in_ok-controller.ensures.sound;
      view = subst (λ w. view_of (controlled l viewer image budget b) budget w ≡ Some c.in-Ok-Some.text.items)
          c.deref-3.ensures.value
          (subst (λ k. view_of k k.budget c.deref-3.result.now ≡ Some c.in-Ok-Some.text.items)
          c.in_ok-controller.ensures.control (sym (rw c.in-Ok-Some.field-0-is at c.in-Ok-Some.ensures.view)));
    }

pub returns-clause-noted : goal.returns-clause-noted
returns-clause-noted g c = λ fresh.
    let asked = c.args.asked.now in
    record {
      lattice = c.in_ok-steering.steering.lattice;
      declared = steered_lattice (g.F.Files.holds c.args.subject.now.files.now) asked.class.now asked.policy
          asked.is_unbounded
          c.in_ok-steering.steering.lattice c.in_ok-steering.steering.driver c.in_ok-steering.steering.verified
          (boundary_for asked.policy c.in_ok-steering.steering.cycle) c.in_ok-steering.ensures.steered;
      image = c.in_ok-steering.steering.verified;
      held = c.in_ok-steering.ensures.held;
      budget = c.in_ok-budget.budget;
      within = c.in_ok-budget.ensures.budget;
      is = c.in_ok-admit.ensures.told fresh;
    }

pub returns-in_err-admit-clause-failed : goal.returns-in_err-admit-clause-failed
returns-in_err-admit-clause-failed g c =
    let asked = c.args.asked.now in
    view_short (g.F.Files.holds c.args.subject.now.files.now) asked c.in_ok-steering.steering.lattice
    c.in_ok-steering.steering.driver c.in_ok-steering.steering.verified
    (boundary_for asked.policy c.in_ok-steering.steering.cycle) c.in_ok-budget.budget
    c.from_residual-in_err-admit.result c.in_err-admit.field-0.0 c.in_ok-steering.ensures.steered
    c.in_ok-steering.ensures.held c.in_ok-budget.ensures.budget c.from_residual-in_err-admit.ensures.1
    c.in_err-admit.ensures.failed

pub returns-in_err-steering-clause-failed : goal.returns-in_err-steering-clause-failed
returns-in_err-steering-clause-failed g c =
    unviewed_failed (g.F.Files.holds c.args.subject.now.files.now) c.args.asked.now c.from_residual.result
    c.in_err-steering.field-0.0 c.from_residual.ensures.1 c.in_err-steering.ensures.failed

pub returns-in_err-file-clause-failed : goal.returns-in_err-file-clause-failed
returns-in_err-file-clause-failed g c =
    let holds = g.F.Files.holds c.args.subject.now.files.now in
    let asked = c.args.asked.now in
    late_failed (WhyViewWithin holds asked) (LacksView holds asked) c.from_residual-in_err-file.result
    c.in_err-file.field-0.0 c.from_residual-in_err-file.ensures.1 c.in_err-file.ensures.failed

pub returns-in_err-words-clause-failed : goal.returns-in_err-words-clause-failed
returns-in_err-words-clause-failed g c =
    let holds = g.F.Files.holds c.args.subject.now.files.now in
    let asked = c.args.asked.now in
    start_failed holds asked.execution asked.initial_store (WhyViewWithin holds asked) (LacksView holds asked)
    c.in_ok-steering.steering.verified c.in_ok-file.file.items
    c.deref.result.now c.from_residual-in_err-words.result c.in_err-words.field-0.0 c.in_ok-steering.ensures.held
    c.in_ok-file.ensures.read
    c.deref.ensures.value (λ reason is. inr (inr (inl is))) c.from_residual-in_err-words.ensures.1
    c.in_err-words.ensures.failed

pub returns-in_err-budget-clause-failed : goal.returns-in_err-budget-clause-failed
returns-in_err-budget-clause-failed g c =
    let holds = g.F.Files.holds c.args.subject.now.files.now in
    let asked = c.args.asked.now in
    unbounded_failed holds asked.execution.image.now asked.execution.budget c.in_ok-steering.steering.verified
    (WhyViewWithin holds asked) (LacksView holds asked)
    c.from_residual-in_err-budget.result c.in_err-budget.field-0.0 c.in_ok-steering.ensures.held
    (λ s lacks. inl (inr lacks)) c.from_residual-in_err-budget.ensures.1 c.in_err-budget.ensures.failed

pub returns-in_err-names-clause-failed : goal.returns-in_err-names-clause-failed
returns-in_err-names-clause-failed g c =
    let holds = g.F.Files.holds c.args.subject.now.files.now in
    let asked = c.args.asked.now in
    memory_failed (WhyViewWithin holds asked) (LacksView holds asked)
    c.from_residual-in_err-names.result Memory c.from_residual-in_err-names.ensures.1 refl

pub returns-in_err-controller-clause-failed : goal.returns-in_err-controller-clause-failed
returns-in_err-controller-clause-failed g c =
    let holds = g.F.Files.holds c.args.subject.now.files.now in
    let asked = c.args.asked.now in
    control_failed holds asked c.in_ok-steering.steering.lattice c.in_ok-steering.steering.driver
    c.in_ok-steering.steering.verified (boundary_for asked.policy c.in_ok-steering.steering.cycle)
    c.in_ok-words.words.items c.in_ok-budget.budget
    c.from_residual-in_err-controller.result c.in_err-controller.field-0.0 c.in_ok-steering.ensures.steered
    (begins_at holds asked.execution asked.initial_store c.in_ok-steering.steering.verified c.in_ok-file.file.items
    c.deref.result.now c.in_ok-words.words.items c.in_ok-steering.ensures.held
    c.in_ok-file.ensures.read
    c.deref.ensures.value c.in_ok-words.ensures.begins c.in_ok-words.ensures.len)
    c.in_ok-budget.ensures.budget c.from_residual-in_err-controller.ensures.1 c.in_err-controller.ensures.failed

pub returns-in_err-feed-clause-failed : goal.returns-in_err-feed-clause-failed
returns-in_err-feed-clause-failed g c =
    let holds = g.F.Files.holds c.args.subject.now.files.now in
    let asked = c.args.asked.now in
    unfed_failed holds asked c.in_ok-steering.steering.lattice c.in_ok-steering.steering.driver
    c.in_ok-steering.steering.verified (boundary_for asked.policy c.in_ok-steering.steering.cycle)
    (boundary_in c.in_ok-names.names) c.in_ok-words.words.items c.in_ok-budget.budget (texts c.as_slice-settings.result.now)
    c.from_residual-in_err-feed.result c.in_err-feed.field-0.0 c.in_ok-steering.ensures.steered
    (begins_at holds asked.execution asked.initial_store c.in_ok-steering.steering.verified c.in_ok-file.file.items
    c.deref.result.now c.in_ok-words.words.items c.in_ok-steering.ensures.held
    c.in_ok-file.ensures.read
    c.deref.ensures.value c.in_ok-words.ensures.begins c.in_ok-words.ensures.len)
    c.in_ok-budget.ensures.budget c.in_ok-names.ensures (ap texts c.as_slice-settings.ensures.value)
    c.from_residual-in_err-feed.ensures.1 c.in_err-feed.ensures.failed

pub returns-in-Ok-None-clause-failed : goal.returns-in-Ok-None-clause-failed
returns-in-Ok-None-clause-failed g c =
    let asked = c.args.asked.now in
    let l = c.in_ok-steering.steering.lattice in
    let viewer = c.in_ok-steering.steering.driver in
    let image = c.in_ok-steering.steering.verified in
    let budget = c.in_ok-budget.budget in
    let b = boundary_for asked.policy c.in_ok-steering.steering.cycle in
    inr (inr (inr (record {
      lattice = l;
      viewer = viewer;
      image = image;
      boundary = b;
      viewed = c.in_ok-steering.ensures.steered;
      words = c.in_ok-words.words.items;
      begins = begins_at (g.F.Files.holds c.args.subject.now.files.now) asked.execution asked.initial_store image
          c.in_ok-file.file.items c.deref.result.now c.in_ok-words.words.items c.in_ok-steering.ensures.held
          c.in_ok-file.ensures.read
          c.deref.ensures.value c.in_ok-words.ensures.begins c.in_ok-words.ensures.len;
      budget = budget;
      within = c.in_ok-budget.ensures.budget;
      is = inr (inl (
        refl,
        subst (λ w. view_of (controlled l viewer image budget b) budget w ≡ None) c.deref-3.ensures.value
            (subst (λ k. view_of k k.budget c.deref-3.result.now ≡ None) c.in_ok-controller.ensures.control
            (sym (rw c.in-Ok-None.field-0-is at c.in-Ok-None.ensures.view))),
      ));
    })))

pub view-requires : goal.view-requires
view-requires g c =
    ap length c.deref-3.ensures.value ∙ c.in_ok-words.ensures.len
    ∙ sym (ap (λ k. length k.image.globals.items) c.in_ok-controller.ensures.control)

pub feed-requires-clause-words : goal.feed-requires-clause-words
feed-requires-clause-words g c = ap length c.deref-2.ensures.value ∙ c.in_ok-words.ensures.len

-- ---- what is noted before a failure.

pub returns-in_err-steering-clause-hushed : goal.returns-in_err-steering-clause-hushed
returns-in_err-steering-clause-hushed g c = λ fresh. each_failure _ c.from_residual.result (λ failure. inl fresh)

pub returns-in_err-file-clause-hushed : goal.returns-in_err-file-clause-hushed
returns-in_err-file-clause-hushed g c = λ fresh. each_failure _ c.from_residual-in_err-file.result (λ failure. inl
    fresh)

pub returns-in_err-words-clause-hushed : goal.returns-in_err-words-clause-hushed
returns-in_err-words-clause-hushed g c = λ fresh. each_failure _ c.from_residual-in_err-words.result (λ failure. inl
    fresh)

pub returns-in_err-budget-clause-hushed : goal.returns-in_err-budget-clause-hushed
returns-in_err-budget-clause-hushed g c = λ fresh. each_failure _ c.from_residual-in_err-budget.result (λ failure.
    inl fresh)

pub returns-in_err-names-clause-hushed : goal.returns-in_err-names-clause-hushed
returns-in_err-names-clause-hushed g c = λ fresh. each_failure _ c.from_residual-in_err-names.result (λ failure. inl
    fresh)

pub returns-in_err-controller-clause-hushed : goal.returns-in_err-controller-clause-hushed
returns-in_err-controller-clause-hushed g c = λ fresh. each_failure _ c.from_residual-in_err-controller.result (λ
    failure. inl fresh)

pub returns-in_err-feed-clause-hushed : goal.returns-in_err-feed-clause-hushed
returns-in_err-feed-clause-hushed g c = λ fresh. each_failure _ c.from_residual-in_err-feed.result (λ failure. inl
    fresh)

pub returns-in_err-admit-clause-hushed : goal.returns-in_err-admit-clause-hushed
returns-in_err-admit-clause-hushed g c = λ fresh.
    each_failure _ c.from_residual-in_err-admit.result (λ failure. inl (c.in_err-admit.ensures.quiet ∙ fresh))

pub returns-in-Ok-None-clause-hushed : goal.returns-in-Ok-None-clause-hushed
returns-in-Ok-None-clause-hushed g c = λ fresh.
    let asked = c.args.asked.now in
    inr (record {
      lattice = c.in_ok-steering.steering.lattice;
      declared = steered_lattice (g.F.Files.holds c.args.subject.now.files.now) asked.class.now asked.policy
          asked.is_unbounded
          c.in_ok-steering.steering.lattice c.in_ok-steering.steering.driver c.in_ok-steering.steering.verified
          (boundary_for asked.policy c.in_ok-steering.steering.cycle) c.in_ok-steering.ensures.steered;
      image = c.in_ok-steering.steering.verified;
      held = c.in_ok-steering.ensures.held;
      budget = c.in_ok-budget.budget;
      within = c.in_ok-budget.ensures.budget;
      is = c.in_ok-admit.ensures.told fresh;
    })

pub returns-in-Err-clause-hushed : goal.returns-in-Err-clause-hushed
returns-in-Err-clause-hushed g c = λ fresh.
    let asked = c.args.asked.now in
    inr (record {
      lattice = c.in_ok-steering.steering.lattice;
      declared = steered_lattice (g.F.Files.holds c.args.subject.now.files.now) asked.class.now asked.policy
          asked.is_unbounded
          c.in_ok-steering.steering.lattice c.in_ok-steering.steering.driver c.in_ok-steering.steering.verified
          (boundary_for asked.policy c.in_ok-steering.steering.cycle) c.in_ok-steering.ensures.steered;
      image = c.in_ok-steering.steering.verified;
      held = c.in_ok-steering.ensures.held;
      budget = c.in_ok-budget.budget;
      within = c.in_ok-budget.ensures.budget;
      is = c.in_ok-admit.ensures.told fresh;
    })
