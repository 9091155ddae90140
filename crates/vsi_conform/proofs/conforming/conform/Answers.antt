use Rattle.std.proofs.Common.{◌∙◌, rules, refl}
use Rattle.vsi_lattice.specs.LatticeView.{class_named, order}
use Rattle.vsi_conform.specs.Points.{points_of}
use Rattle.vsi_conform.proofs.BoundLines.{readable_unbounded, unbounded_so}
use Rattle.vsi_conform.proofs.Converse.{accepted_image, accepted_told, never_refused, readable_told, none_told_so}
use Rattle.vsi_conform.proofs.Fitting.{conforms_so}
use Rattle.vsi_conform.proofs.conforming.conform.Goals as goal

pub returns-in_ok-points-in-Ok-clause-conforms : goal.returns-in_ok-points-in-Ok-clause-conforms
returns-in_ok-points-in-Ok-clause-conforms c = λ h.
    conforms_so c.args.lattice.now c.args.text.now c.args.interface.now c.in-Ok.verified
    c.in_ok-points-in-Ok.points.items c.in_ok-points-in-Ok.unbounded (search rules)
    c.in_ok-points-in-Ok.ensures.points c.in_ok-points-in-Ok.ensures.bound h

pub returns-in_ok-points-in-Ok-clause-told : goal.returns-in_ok-points-in-Ok-clause-told
returns-in_ok-points-in-Ok-clause-told c =
    record {
      image = c.in-Ok.verified;
      accepted = search rules;
      points = c.in_ok-points-in-Ok.ensures.points;
      bound = c.in_ok-points-in-Ok.ensures.bound;
    }

pub returns-in_ok-points-in-Ok-clause-exact : goal.returns-in_ok-points-in-Ok-clause-exact
returns-in_ok-points-in-Ok-clause-exact c = λ conforms none.
    none_told_so c.in_ok-points-in-Ok.points.items c.in_ok-points-in-Ok.unbounded
    (c.in_ok-points-in-Ok.ensures.points
    ∙ accepted_told c.args.lattice.now c.args.text.now c.args.interface.now c.in-Ok.verified (search rules) conforms)
    none

pub returns-in_ok-points-in-Err-clause-exact : goal.returns-in_ok-points-in-Err-clause-exact
returns-in_ok-points-in-Err-clause-exact c = λ conforms none.
    let l = c.args.lattice.now in
    absurd (never_refused (class_named l) (order l) c.args.interface.now.judgement c.args.text.now conforms.image
    c.in-Err.error conforms.accepted (search rules))

pub returns-in_ok-points-in-Err-clause-unrefused : goal.returns-in_ok-points-in-Err-clause-unrefused
returns-in_ok-points-in-Err-clause-unrefused c = λ conforms.
    let l = c.args.lattice.now in
    absurd (never_refused (class_named l) (order l) c.args.interface.now.judgement c.args.text.now conforms.image
    c.in-Err.error conforms.accepted (search rules))

pub returns-in_ok-points-in-Ok-clause-pointless : goal.returns-in_ok-points-in-Ok-clause-pointless
returns-in_ok-points-in-Ok-clause-pointless c = λ conforms.
    c.in_ok-points-in-Ok.ensures.points
    ∙ accepted_told c.args.lattice.now c.args.text.now c.args.interface.now c.in-Ok.verified (search rules) conforms

pub returns-in_ok-points-in-Err-clause-pointless : goal.returns-in_ok-points-in-Err-clause-pointless
returns-in_ok-points-in-Err-clause-pointless c = λ conforms.
    readable_told c.args.lattice.now c.args.text.now c.args.interface.now c.in_ok-points-in-Err.points.items
    c.in_ok-points-in-Err.unbounded c.in_ok-points-in-Err.ensures conforms

pub returns-in_ok-points-in-Ok-clause-bound : goal.returns-in_ok-points-in-Ok-clause-bound
returns-in_ok-points-in-Ok-clause-bound c =
    let l = c.args.lattice.now in
    unbounded_so l c.args.text.now c.args.interface.now c.in-Ok.verified c.in_ok-points-in-Ok.unbounded
    (accepted_image l c.args.text.now c.args.interface.now.judgement c.in-Ok.verified (search rules))
    c.in_ok-points-in-Ok.ensures.bound

pub returns-in_ok-points-in-Err-clause-bound : goal.returns-in_ok-points-in-Err-clause-bound
returns-in_ok-points-in-Err-clause-bound c =
    readable_unbounded c.args.lattice.now c.args.text.now c.args.interface.now c.in_ok-points-in-Err.points.items
    c.in_ok-points-in-Err.unbounded c.in_ok-points-in-Err.ensures
