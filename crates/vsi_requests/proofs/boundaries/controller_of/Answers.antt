use Rattle.std.proofs.Common.{◌≡◌, ◌∙◌, Some, ap, sym, subst}
use Rattle.vsi_answers.specs.Answers.{Because}
use Rattle.vsi_answers.specs.Judged.{TellsStartFault}
use Rattle.vsi_drive.specs.Boundary.{boundary_of}
use Rattle.vsi_drive.specs.BoundaryFaults.{boundary_fault}
use Rattle.vsi_drive.specs.Control.{control, controlled}
use Rattle.vsi_drive.specs.declared.boundary.StartFault.TheVariants as start
use Rattle.vsi_subject.specs.Boundaries.{boundary_for}
use Rattle.vsi_subject.specs.Refusals.{NoOther, FailsBy}
use Rattle.vsi_subject.proofs.Reasons.{reason_fails}
use Rattle.vsi_requests.proofs.Undriven.{boundary_fails, controller_fails}
use Rattle.vsi_requests.proofs.boundaries.controller_of.Goals as goal

pub returns-in-Ok-Ok-clause-control : goal.returns-in-Ok-Ok-clause-control
returns-in-Ok-Ok-clause-control c =
    let s = c.args.steering.now in
    let made = controlled s.lattice s.driver s.verified c.args.budget in
    let got : control c.in-Ok-Ok.controller ≡ made (boundary_of c.boundary.result) =
    rw c.in-Ok-Ok.field-0-is at c.in-Ok-Ok.ensures.control in
    got ∙ ap made (c.boundary.ensures ∙ c.requires.names)

pub returns-in-Ok-Ok-clause-sound : goal.returns-in-Ok-Ok-clause-sound
returns-in-Ok-Ok-clause-sound c =
    rw c.in-Ok-Ok.field-0-is at c.in-Ok-Ok.ensures.sound

pub returns-else-is_err-clause-failed : goal.returns-else-is_err-clause-failed
returns-else-is_err-clause-failed c =
    let s = c.args.steering.now in
    let made = controlled s.lattice s.driver s.verified c.args.budget in
    let got : boundary_fault (made (boundary_of c.boundary.result)) ≡ Some c.in-Ok-Err.fault =
    rw c.in-Ok-Err.field-0-is at c.in-Ok-Err.ensures.fault in
    boundary_fails (boundary_for c.args.policy s.cycle) s.lattice s.driver s.verified c.args.budget c.in-Ok-Err.fault
    c.from.result (sym (ap (λ b. boundary_fault (made b)) (c.boundary.ensures ∙ c.requires.names)) ∙ got)
    (subst (FailsBy (Because (TellsStartFault (λ f. f ≡ start.Boundary c.in-Ok-Err.fault)) ⊥) NoOther)
    (sym c.from.ensures)
    (reason_fails (Because (TellsStartFault (λ f. f ≡ start.Boundary c.in-Ok-Err.fault)) ⊥) NoOther
    c.refused_start.result c.refused_start.ensures))

pub returns-in-Err-clause-failed : goal.returns-in-Err-clause-failed
returns-in-Err-clause-failed c =
    let s = c.args.steering.now in
    controller_fails (boundary_for c.args.policy s.cycle) s.lattice s.driver s.verified c.args.budget c.in-Err.error
    c.faulty.result c.in-Err.ensures.unknown c.faulty.ensures
