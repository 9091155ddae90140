use Rattle.std.proofs.Common.{◌≡◌, ◌∙◌, None, arith, inl, inr, refl, sym, ap, subst}
use Rattle.std.proofs.lemmas.Result.{IfErr-weaker, on_ok_weaker}
use Rattle.vsi_drive.specs.Counted.{device_of}
use Rattle.vsi_drive.specs.BoundaryFaults.{boundary_fault}
use Rattle.vsi_drive.specs.Control.{control}
use Rattle.vsi_subject.specs.declared.failure.Failure.TheVariants.{Memory}
use Rattle.vsi_subject.specs.Driven.{DrivesInput}
use Rattle.vsi_subject.specs.Holding.{Delivers}
use Rattle.vsi_subject.specs.State.{Touches, state_text}
use Rattle.vsi_subject.specs.Partly.{AnswersDrive, DrivenText, Partly}
use Rattle.vsi_subject.specs.Saved.{CutsInput}
use Rattle.vsi_subject.specs.Boundaries.{boundary_for}
use Rattle.vsi_subject.specs.Undriven.{LacksDrive, WhyDrive}
use Rattle.vsi_subject.proofs.Driven.{written_back}
use Rattle.vsi_subject.proofs.Cut.{Touches-trans, cut_on, cut_partly}
use Rattle.vsi_subject.proofs.KeepingLemmas.{delivered_after, driven_state, early_state, first_state, words_begun}
use Rattle.vsi_subject.proofs.Leaving.{driven_answers}
use Rattle.vsi_subject.proofs.Partly.{any_failure, kept_leaves, late_handed, late_leaves, on_ok_of}
use Rattle.vsi_subject.proofs.Reasons.{handed, late_failed}
use Rattle.vsi_requests.proofs.Undriven.{control_failed, first_failed, noted_drive, short_failed, unsteered_failed}
use Rattle.vsi_subject.proofs.Unrun.{handed_late, memory_failed, unbounded_failed}
use Rattle.vsi_subject.specs.Noted.{NotesStop}
use Rattle.vsi_subject.proofs.CarriedOut.{each_failure}
use Rattle.vsi_requests.proofs.drives.drive.Goals as goal

pub returns-clause-performed : goal.returns-clause-performed
returns-clause-performed g c =
    let left = g.F.Files.holds c.save-2.new.files in
    let image = c.in_ok-steering.steering.verified in
    let given = g.R.Read.remaining (device_of c.args.input.now) in
    let old = g.W.Write.contents (device_of c.args.output.now) in
    let new = g.W.Write.contents (device_of c.drive_input.new.output) in
    on_ok_weaker c.save-2.result
    (λ saved. record {
      lattice = c.in_ok-steering.steering.lattice;
      driver = c.in_ok-steering.steering.driver;
      image = image;
      boundary = boundary_for c.args.driving.policy c.in_ok-steering.steering.cycle;
      steered = c.in_ok-steering.ensures.steered;
      held = c.in_ok-steering.ensures.held;
      first = c.in_ok-words.words.items;
      begun = words_begun _ c.args.driving image c.in_ok-words.words.items _ c.first_path-path.ensures
          c.in_ok-words.ensures.stored c.in_ok-words.ensures.full;
      words = c.deref.result.now;
      budget = c.in_ok-budget.budget;
      within = c.in_ok-budget.ensures.budget;
      admitted = c.in_ok-admit.ensures.admitted;
      sound = subst (λ k. boundary_fault k ≡ None) c.in_ok-controller.ensures.control
          c.in_ok-controller.ensures.sound;
      drives = subst (λ k. DrivesInput k c.in_ok-words.words.items c.deref.result.now given old new)
          c.in_ok-controller.ensures.control
          (subst (λ m. DrivesInput (control c.in_ok-controller.controller) m c.deref.result.now given old new)
          c.deref_mut.ensures.value
          (subst (λ w. DrivesInput (control c.in_ok-controller.controller) c.deref_mut.result.now w given old new)
          (sym (c.deref.ensures.value ∙ written_back _ _ _ (omega (
            arith,
            c.drive_input.auto.store,
            c.deref_mut.ensures.len,
          )))) c.in_ok-drive_input.ensures.driven));
      saved = delivered_after c.args.driving.save (state_text image c.deref.result.now)
          (g.F.Files.holds c.args.files.now) (g.F.Files.holds c.drive_input.new.files) left
          (Touches-trans c.args.driving.save (g.F.Files.holds c.args.files.now) (g.F.Files.holds c.save.new.files)
          (g.F.Files.holds c.drive_input.new.files)
          c.in_ok-save.ensures.touched c.in_ok-drive_input.ensures.touched) saved;
    })
    c.save-2.ensures.saved

pub returns-in_err-steering-clause-failed : goal.returns-in_err-steering-clause-failed
returns-in_err-steering-clause-failed g c =
    unsteered_failed (g.F.Files.holds c.args.files.now) c.args.driving c.from_residual.result
    c.in_err-steering.field-0.0 c.from_residual.ensures.1 c.in_err-steering.ensures.failed

pub returns-in_err-words-clause-failed : goal.returns-in_err-words-clause-failed
returns-in_err-words-clause-failed g c =
    let holds = g.F.Files.holds c.args.files.now in
    first_failed holds c.args.driving.execution.image.now c.first_path-path.result c.args.driving.is_full
    (WhyDrive holds c.args.driving) (LacksDrive holds c.args.driving)
    c.in_ok-steering.steering.verified c.from_residual-in_err-words.result
    c.in_err-words.field-0.0 c.in_ok-steering.ensures.held
    (λ reason is. inr (inr (inl (c.first_path-path.result, c.first_path-path.ensures, is))))
    c.from_residual-in_err-words.ensures.1 c.in_err-words.ensures.failed

pub returns-in_err-budget-clause-failed : goal.returns-in_err-budget-clause-failed
returns-in_err-budget-clause-failed g c =
    let holds = g.F.Files.holds c.args.files.now in
    unbounded_failed holds c.args.driving.execution.image.now c.args.driving.execution.budget
    c.in_ok-steering.steering.verified
    (WhyDrive holds c.args.driving) (LacksDrive holds c.args.driving)
    c.from_residual-in_err-budget.result c.in_err-budget.field-0.0 c.in_ok-steering.ensures.held
    (λ s lacks. inl (inr lacks)) c.from_residual-in_err-budget.ensures.1 c.in_err-budget.ensures.failed

pub returns-in_err-admit-clause-failed : goal.returns-in_err-admit-clause-failed
returns-in_err-admit-clause-failed g c =
    let holds = g.F.Files.holds c.args.files.now in
    short_failed holds c.args.driving (WhyDrive holds c.args.driving) c.in_ok-steering.steering.lattice
    c.in_ok-steering.steering.driver c.in_ok-steering.steering.verified
    (boundary_for c.args.driving.policy c.in_ok-steering.steering.cycle) c.in_ok-budget.budget
    c.from_residual-in_err-admit.result c.in_err-admit.field-0.0 c.in_ok-steering.ensures.steered
    c.in_ok-steering.ensures.held c.in_ok-budget.ensures.budget
    c.from_residual-in_err-admit.ensures.1 c.in_err-admit.ensures.failed

pub returns-in_err-admit-clause-left : goal.returns-in_err-admit-clause-left
returns-in_err-admit-clause-left g c = kept_leaves _ 4 _ c.from_residual-in_err-admit.result

pub returns-in_err-drive_input-clause-failed : goal.returns-in_err-drive_input-clause-failed
returns-in_err-drive_input-clause-failed g c =
    let holds = g.F.Files.holds c.args.files.now in
    late_failed (WhyDrive holds c.args.driving) (LacksDrive holds c.args.driving)
    c.from_residual-in_err-drive_input.result c.in_err-drive_input.field-0.0
    c.from_residual-in_err-drive_input.ensures.1 c.in_err-drive_input.ensures.failure

pub returns-in_err-names-clause-failed : goal.returns-in_err-names-clause-failed
returns-in_err-names-clause-failed g c =
    let holds = g.F.Files.holds c.args.files.now in
    memory_failed (WhyDrive holds c.args.driving) (LacksDrive holds c.args.driving)
    c.from_residual-in_err-names.result Memory c.from_residual-in_err-names.ensures.1 refl

pub returns-in_err-controller-clause-failed : goal.returns-in_err-controller-clause-failed
returns-in_err-controller-clause-failed g c =
    control_failed (g.F.Files.holds c.args.files.now) c.args.driving c.in_ok-steering.steering.lattice
    c.in_ok-steering.steering.driver c.in_ok-steering.steering.verified
    (boundary_for c.args.driving.policy c.in_ok-steering.steering.cycle) c.in_ok-budget.budget
    c.from_residual-in_err-controller.result
    c.in_err-controller.field-0.0 c.in_ok-steering.ensures.steered c.in_ok-steering.ensures.held
    c.in_ok-budget.ensures.budget c.from_residual-in_err-controller.ensures.1 c.in_err-controller.ensures.failed

pub returns-clause-failed : goal.returns-clause-failed
returns-clause-failed g c =
    let holds = g.F.Files.holds c.args.files.now in
    handed_late (WhyDrive holds c.args.driving) (LacksDrive holds c.args.driving)
    c.save-2.result c.save-2.ensures.failure

pub returns-in_err-steering-clause-left : goal.returns-in_err-steering-clause-left
returns-in_err-steering-clause-left g c = kept_leaves _ 4 _ c.from_residual.result

pub returns-in_err-words-clause-left : goal.returns-in_err-words-clause-left
returns-in_err-words-clause-left g c = kept_leaves _ 4 _ c.from_residual-in_err-words.result

pub returns-in_err-budget-clause-left : goal.returns-in_err-budget-clause-left
returns-in_err-budget-clause-left g c = kept_leaves _ 4 _ c.from_residual-in_err-budget.result

pub returns-in_err-names-clause-left : goal.returns-in_err-names-clause-left
returns-in_err-names-clause-left g c = kept_leaves _ 4 _ c.from_residual-in_err-names.result

pub returns-in_err-controller-clause-left : goal.returns-in_err-controller-clause-left
returns-in_err-controller-clause-left g c = kept_leaves _ 4 _ c.from_residual-in_err-controller.result

pub returns-in_err-drive_input-clause-left : goal.returns-in_err-drive_input-clause-left
returns-in_err-drive_input-clause-left g c =
    let holds = g.F.Files.holds c.args.files.now in
    let given = g.R.Read.remaining (device_of c.args.input.now) in
    let old = g.W.Write.contents (device_of c.args.output.now) in
    let new = g.W.Write.contents (device_of c.drive_input.new.output) in
    let drives = control c.in_ok-controller.controller in
    let words = c.in_ok-words.words.items in
    let image = c.in_ok-steering.steering.verified in
    late_handed (AnswersDrive holds c.args.driving given) old new c.from_residual-in_err-drive_input.result
    c.in_err-drive_input.field-0.0 c.from_residual-in_err-drive_input.ensures.1
    c.in_err-drive_input.ensures.failure
    (driven_answers holds c.args.driving given old new c.in_ok-steering.steering.lattice
    c.in_ok-steering.steering.driver image (boundary_for c.args.driving.policy c.in_ok-steering.steering.cycle) words
    c.in_ok-budget.budget drives c.in_ok-budget.ensures.budget c.in_ok-steering.ensures.steered
    c.in_ok-steering.ensures.held
    (words_begun _ c.args.driving image words _ c.first_path-path.ensures
    c.in_ok-words.ensures.stored c.in_ok-words.ensures.full)
    c.in_ok-controller.ensures.control
    c.in_ok-admit.ensures.admitted c.in_ok-controller.ensures.sound
    (subst (λ m. Partly (DrivenText drives m given) old new) c.deref_mut.ensures.value
    (cut_partly _ _ drives _ _ given old new _ _ c.in_err-drive_input.ensures.cut)))

pub returns-clause-left : goal.returns-clause-left
returns-clause-left g c =
    let holds = g.F.Files.holds c.args.files.now in
    let given = g.R.Read.remaining (device_of c.args.input.now) in
    let old = g.W.Write.contents (device_of c.args.output.now) in
    let new = g.W.Write.contents (device_of c.drive_input.new.output) in
    let drives = control c.in_ok-controller.controller in
    let words = c.in_ok-words.words.items in
    let image = c.in_ok-steering.steering.verified in
    late_leaves (AnswersDrive holds c.args.driving given) old new c.save-2.result c.save-2.ensures.failure
    (driven_answers holds c.args.driving given old new c.in_ok-steering.steering.lattice
    c.in_ok-steering.steering.driver image (boundary_for c.args.driving.policy c.in_ok-steering.steering.cycle) words
    c.in_ok-budget.budget drives c.in_ok-budget.ensures.budget c.in_ok-steering.ensures.steered
    c.in_ok-steering.ensures.held
    (words_begun _ c.args.driving image words _ c.first_path-path.ensures
    c.in_ok-words.ensures.stored c.in_ok-words.ensures.full)
    c.in_ok-controller.ensures.control
    c.in_ok-admit.ensures.admitted c.in_ok-controller.ensures.sound
    (subst (λ m. Partly (DrivenText drives m given) old new) c.deref_mut.ensures.value
    (cut_partly _ _ drives _ _ given old new _ _ c.in_ok-drive_input.ensures.cut)))

pub returns-in_err-save-clause-failed : goal.returns-in_err-save-clause-failed
returns-in_err-save-clause-failed g c =
    let holds = g.F.Files.holds c.args.files.now in
    late_failed (WhyDrive holds c.args.driving) (LacksDrive holds c.args.driving)
    c.from_residual-in_err-save.result c.in_err-save.field-0.0
    c.from_residual-in_err-save.ensures.1 c.in_err-save.ensures.failure

pub returns-in_err-save-clause-left : goal.returns-in_err-save-clause-left
returns-in_err-save-clause-left g c = kept_leaves _ 4 _ c.from_residual-in_err-save.result

pub returns-in_err-steering-clause-state : goal.returns-in_err-steering-clause-state
returns-in_err-steering-clause-state g c = any_failure _ c.from_residual.result
    (early_state _ c.args.driving _ _)

pub returns-in_err-words-clause-state : goal.returns-in_err-words-clause-state
returns-in_err-words-clause-state g c = any_failure _ c.from_residual-in_err-words.result
    (early_state _ c.args.driving _ _)

pub returns-in_err-budget-clause-state : goal.returns-in_err-budget-clause-state
returns-in_err-budget-clause-state g c = any_failure _ c.from_residual-in_err-budget.result
    (early_state _ c.args.driving _ _)

pub returns-in_err-admit-clause-state : goal.returns-in_err-admit-clause-state
returns-in_err-admit-clause-state g c = any_failure _ c.from_residual-in_err-admit.result
    (early_state _ c.args.driving _ _)

pub returns-in_err-names-clause-state : goal.returns-in_err-names-clause-state
returns-in_err-names-clause-state g c = any_failure _ c.from_residual-in_err-names.result
    (early_state _ c.args.driving _ _)

pub returns-in_err-controller-clause-state : goal.returns-in_err-controller-clause-state
returns-in_err-controller-clause-state g c = any_failure _ c.from_residual-in_err-controller.result
    (early_state _ c.args.driving _ _)

pub returns-in_err-save-clause-state : goal.returns-in_err-save-clause-state
returns-in_err-save-clause-state g c = any_failure _ c.from_residual-in_err-save.result
    (first_state _ c.args.driving _ _ _ c.in_err-save.ensures.touched c.in_err-save.ensures.stays)

pub returns-in_err-drive_input-clause-state : goal.returns-in_err-drive_input-clause-state
returns-in_err-drive_input-clause-state g c =
    let holds = g.F.Files.holds in
    let given = g.R.Read.remaining (device_of c.args.input.now) in
    let old = g.W.Write.contents (device_of c.args.output.now) in
    let new = g.W.Write.contents (device_of c.drive_input.new.output) in
    let drives = control c.in_ok-controller.controller in
    let words = c.in_ok-words.words.items in
    let image = c.in_ok-steering.steering.verified in
    any_failure _ c.from_residual-in_err-drive_input.result
    (driven_state (holds c.args.files.now) (holds c.save.new.files)
    (holds c.drive_input.new.files) c.args.driving given old new
    c.in_ok-steering.steering.lattice c.in_ok-steering.steering.driver image
    (boundary_for c.args.driving.policy c.in_ok-steering.steering.cycle) words c.in_ok-budget.budget
    c.saturating_sub.result drives
    c.in_ok-budget.ensures.budget c.in_ok-steering.ensures.steered c.in_ok-steering.ensures.held
    (words_begun _ c.args.driving image words _ c.first_path-path.ensures
    c.in_ok-words.ensures.stored c.in_ok-words.ensures.full)
    c.in_ok-controller.ensures.control
    c.in_ok-admit.ensures.admitted c.in_ok-controller.ensures.sound
    c.in_ok-save.ensures.touched
    (subst (λ m. Delivers c.args.driving.save (state_text image m) (holds c.args.files.now)
    (holds c.save.new.files)) c.as_slice.ensures.value c.in_ok-save.ensures.saved)
    c.in_err-drive_input.ensures.touched c.saturating_sub.ensures
    (subst (λ m. CutsInput c.args.driving.save image drives m c.saturating_sub.result given old new
    (holds c.save.new.files) (holds c.drive_input.new.files)) c.deref_mut.ensures.value c.in_err-drive_input.ensures.cut))

pub returns-clause-state : goal.returns-clause-state
returns-clause-state g c =
    let holds = g.F.Files.holds in
    let given = g.R.Read.remaining (device_of c.args.input.now) in
    let old = g.W.Write.contents (device_of c.args.output.now) in
    let new = g.W.Write.contents (device_of c.drive_input.new.output) in
    let drives = control c.in_ok-controller.controller in
    let words = c.in_ok-words.words.items in
    let image = c.in_ok-steering.steering.verified in
    IfErr-weaker c.save-2.result _ _
    (λ failure stays.
    driven_state (holds c.args.files.now) (holds c.save.new.files)
    (holds c.save-2.new.files) c.args.driving given old new
    c.in_ok-steering.steering.lattice c.in_ok-steering.steering.driver image
    (boundary_for c.args.driving.policy c.in_ok-steering.steering.cycle) words c.in_ok-budget.budget
    c.saturating_sub.result drives
    c.in_ok-budget.ensures.budget c.in_ok-steering.ensures.steered c.in_ok-steering.ensures.held
    (words_begun _ c.args.driving image words _ c.first_path-path.ensures
    c.in_ok-words.ensures.stored c.in_ok-words.ensures.full)
    c.in_ok-controller.ensures.control
    c.in_ok-admit.ensures.admitted c.in_ok-controller.ensures.sound
    c.in_ok-save.ensures.touched
    (subst (λ m. Delivers c.args.driving.save (state_text image m) (holds c.args.files.now)
    (holds c.save.new.files)) c.as_slice.ensures.value c.in_ok-save.ensures.saved)
    (Touches-trans c.args.driving.save (holds c.save.new.files) (holds c.drive_input.new.files)
    (holds c.save-2.new.files) c.in_ok-drive_input.ensures.touched c.save-2.ensures.touched)
    c.saturating_sub.ensures
    (cut_on c.args.driving.save image drives words c.saturating_sub.result given old new (holds c.save.new.files)
    (holds c.drive_input.new.files) (holds c.save-2.new.files)
    (subst (λ m. CutsInput c.args.driving.save image drives m c.saturating_sub.result given old new
    (holds c.save.new.files) (holds c.drive_input.new.files)) c.deref_mut.ensures.value c.in_ok-drive_input.ensures.cut) stays))
    c.save-2.ensures.stays

pub drive_input-requires-clause-same : goal.drive_input-requires-clause-same
drive_input-requires-clause-same g c = sym (ap (λ k. k.image) c.in_ok-controller.ensures.control)

-- ---- what is noted.

pub returns-clause-noted : goal.returns-clause-noted
returns-clause-noted g c = λ unnoted.
    let holds = g.F.Files.holds c.args.files.now in
    on_ok_of c.save-2.result
    (noted_drive holds c.args.driving c.in_ok-steering.steering.lattice
    c.in_ok-steering.steering.driver c.in_ok-steering.steering.verified
    (boundary_for c.args.driving.policy c.in_ok-steering.steering.cycle) c.in_ok-budget.budget c.admit.new.note.items
    c.in_ok-steering.ensures.steered c.in_ok-steering.ensures.held c.in_ok-budget.ensures.budget
    (c.in_ok-admit.ensures.told unnoted))

pub returns-in_err-steering-clause-hushed : goal.returns-in_err-steering-clause-hushed
returns-in_err-steering-clause-hushed g c = λ unnoted. each_failure _ c.from_residual.result (λ failure. inl unnoted)

pub returns-in_err-words-clause-hushed : goal.returns-in_err-words-clause-hushed
returns-in_err-words-clause-hushed g c = λ unnoted. each_failure _ c.from_residual-in_err-words.result (λ failure. inl unnoted)

pub returns-in_err-budget-clause-hushed : goal.returns-in_err-budget-clause-hushed
returns-in_err-budget-clause-hushed g c = λ unnoted. each_failure _ c.from_residual-in_err-budget.result (λ failure. inl unnoted)

pub returns-in_err-names-clause-hushed : goal.returns-in_err-names-clause-hushed
returns-in_err-names-clause-hushed g c = λ unnoted. each_failure _ c.from_residual-in_err-names.result (λ failure. inl unnoted)

pub returns-in_err-controller-clause-hushed : goal.returns-in_err-controller-clause-hushed
returns-in_err-controller-clause-hushed g c = λ unnoted. each_failure _ c.from_residual-in_err-controller.result (λ failure. inl unnoted)

pub returns-in_err-admit-clause-hushed : goal.returns-in_err-admit-clause-hushed
returns-in_err-admit-clause-hushed g c = λ unnoted.
    each_failure _ c.from_residual-in_err-admit.result (λ failure. inl (c.in_err-admit.ensures.quiet ∙ unnoted))

pub returns-in_err-save-clause-hushed : goal.returns-in_err-save-clause-hushed
returns-in_err-save-clause-hushed g c = λ unnoted.
    let holds = g.F.Files.holds c.args.files.now in
    handed (λ failure. NotesStop holds c.args.driving failure c.admit.new.note.items) c.in_err-save.field-0.0
    c.from_residual-in_err-save.result c.from_residual-in_err-save.ensures.1
    (inr (
      c.in_err-save.ensures.failure,
      noted_drive holds c.args.driving c.in_ok-steering.steering.lattice
          c.in_ok-steering.steering.driver c.in_ok-steering.steering.verified
          (boundary_for c.args.driving.policy c.in_ok-steering.steering.cycle) c.in_ok-budget.budget c.admit.new.note.items
          c.in_ok-steering.ensures.steered c.in_ok-steering.ensures.held c.in_ok-budget.ensures.budget
          (c.in_ok-admit.ensures.told unnoted),
    ))

pub returns-in_err-drive_input-clause-hushed : goal.returns-in_err-drive_input-clause-hushed
returns-in_err-drive_input-clause-hushed g c = λ unnoted.
    let holds = g.F.Files.holds c.args.files.now in
    handed (λ failure. NotesStop holds c.args.driving failure c.admit.new.note.items) c.in_err-drive_input.field-0.0
    c.from_residual-in_err-drive_input.result c.from_residual-in_err-drive_input.ensures.1
    (inr (
      c.in_err-drive_input.ensures.failure,
      noted_drive holds c.args.driving c.in_ok-steering.steering.lattice
          c.in_ok-steering.steering.driver c.in_ok-steering.steering.verified
          (boundary_for c.args.driving.policy c.in_ok-steering.steering.cycle) c.in_ok-budget.budget c.admit.new.note.items
          c.in_ok-steering.ensures.steered c.in_ok-steering.ensures.held c.in_ok-budget.ensures.budget
          (c.in_ok-admit.ensures.told unnoted),
    ))

pub returns-clause-hushed : goal.returns-clause-hushed
returns-clause-hushed g c = λ unnoted.
    let holds = g.F.Files.holds c.args.files.now in
    IfErr-weaker c.save-2.result _ _
    (λ failure late. inr (
      late,
      noted_drive holds c.args.driving c.in_ok-steering.steering.lattice
          c.in_ok-steering.steering.driver c.in_ok-steering.steering.verified
          (boundary_for c.args.driving.policy c.in_ok-steering.steering.cycle) c.in_ok-budget.budget c.admit.new.note.items
          c.in_ok-steering.ensures.steered c.in_ok-steering.ensures.held c.in_ok-budget.ensures.budget
          (c.in_ok-admit.ensures.told unnoted),
    ))
    c.save-2.ensures.failure
