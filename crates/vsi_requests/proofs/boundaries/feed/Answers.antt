use Rattle.std.proofs.Common.{◌≡◌, ◌∙◌, ap, sym, subst, length}
use Rattle.vsi_lattice.specs.NamePlaces.{texts}
use Rattle.vsi_answers.specs.Answers.{Because}
use Rattle.vsi_answers.specs.Judged.{TellsStartFault}
use Rattle.vsi_drive.specs.Boundary.{boundary_of}
use Rattle.vsi_drive.specs.Control.{control, controlled}
use Rattle.vsi_drive.specs.declared.boundary.StartFault.TheVariants as start
use Rattle.vsi_subject.specs.Feeding.{AreInputs, IsUnfed}
use Rattle.vsi_subject.specs.Refusals.{NoOther, FailsBy}
use Rattle.vsi_subject.proofs.Reasons.{reason_fails}
use Rattle.vsi_requests.proofs.Fed.{fed_all, unfed_fails}
use Rattle.vsi_requests.proofs.boundaries.feed.Goals as goal

pub returns-in-Lattice-clause-fed : goal.returns-in-Lattice-clause-fed
returns-in-Lattice-clause-fed c = rw c.in-Lattice.is tt

pub returns-in-Ok-None-clause-fed : goal.returns-in-Ok-None-clause-fed
returns-in-Ok-None-clause-fed c = rw c.in-Interface.is
    (let s = c.args.steering.now in
    let made = controlled s.lattice s.driver s.verified 0 in
    let got : control c.in-Ok-Ok.controller ≡ made (boundary_of c.boundary.result) =
    rw c.in-Ok-Ok.field-0-is at c.in-Ok-Ok.ensures.control in
    subst (λ k. AreInputs k (texts c.args.settings.now)) (got ∙ ap made c.boundary.ensures)
    (fed_all (control c.in-Ok-Ok.controller) 0 (texts c.args.settings.now)
    (sym (rw c.in-Ok-None.field-0-is at c.in-Ok-None.ensures))))

pub returns-in-Ok-Some-clause-failed : goal.returns-in-Ok-Some-clause-failed
returns-in-Ok-Some-clause-failed c =
    let s = c.args.steering.now in
    let made = controlled s.lattice s.driver s.verified 0 in
    let got : control c.in-Ok-Ok.controller ≡ made (boundary_of c.boundary.result) =
    rw c.in-Ok-Ok.field-0-is at c.in-Ok-Ok.ensures.control in
    let fault = c.in-Ok-Some.fault in
    subst
    (λ k. FailsBy (Because (TellsStartFault (IsUnfed k (texts c.args.settings.now))) ⊥) NoOther c.from.result)
    (got ∙ ap made c.boundary.ensures)
    (unfed_fails (control c.in-Ok-Ok.controller) (texts c.args.settings.now) fault c.from.result
    (rw c.in-Ok-Some.field-0-is at c.in-Ok-Some.ensures)
    (subst (FailsBy (Because (TellsStartFault (λ f. f ≡ start.Setting fault)) ⊥) NoOther)
    (sym c.from.ensures)
    (reason_fails (Because (TellsStartFault (λ f. f ≡ start.Setting fault)) ⊥) NoOther c.refused_start.result
    c.refused_start.ensures)))

pub first_unfed-requires : goal.first_unfed-requires
first_unfed-requires c =
    let s = c.args.steering.now in
    let made = controlled s.lattice s.driver s.verified 0 in
    let got : control c.in-Ok-Ok.controller ≡ made (boundary_of c.boundary.result) =
    rw c.in-Ok-Ok.field-0-is at c.in-Ok-Ok.ensures.control in
    c.requires.words ∙ sym (ap (λ k. length k.image.globals.items) got)
