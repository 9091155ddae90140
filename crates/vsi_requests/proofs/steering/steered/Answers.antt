use Rattle.std.proofs.Common.{None, refl, sym, subst}
use Rattle.std.proofs.lemmas.Result.{IfOk-weaker}
use Rattle.vsi_lattice.specs.LatticeView.{order}
use Rattle.vsi_lattice.specs.Order.{IsClass}
use Rattle.vsi_conform.specs.Reading.{cycle}
use Rattle.std.specs.Prelude.{option_map}
use Rattle.vsi_subject.specs.Boundaries.{bound_by, boundary_for}
use Rattle.vsi_subject.specs.Refusals.{FailsBy, LacksClassAt}
use Rattle.vsi_subject.specs.Steering.{IsGoverned, IsSteeredBy}
use Rattle.vsi_subject.proofs.Reasons.{handed}
use Rattle.vsi_subject.proofs.Unrun.{Unseen}
use Rattle.vsi_requests.proofs.Steered.{steered_governed, unsteered_governed, unsteered_listed}
use Rattle.vsi_requests.proofs.steering.steered.Goals as goal

pub returns-in_ok-lattice-in-Lattice-clause-class : goal.returns-in_ok-lattice-in-Lattice-clause-class
returns-in_ok-lattice-in-Lattice-clause-class g c = c.in_ok-lattice-in-Lattice.ensures.looks.is

pub returns-in_ok-lattice-in-Lattice-clause-held : goal.returns-in_ok-lattice-in-Lattice-clause-held
returns-in_ok-lattice-in-Lattice-clause-held g c = c.in_ok-lattice-in-Lattice.ensures.held

pub returns-in_ok-lattice-in-Lattice-clause-steered : goal.returns-in_ok-lattice-in-Lattice-clause-steered
returns-in_ok-lattice-in-Lattice-clause-steered g c =
    let seen = c.in_ok-lattice-in-Lattice in
    subst
    (λ q. IsSteeredBy (g.F.Files.holds c.args.subject.now.files.now) c.args.class.now q c.args.is_unbounded
    seen.lattice seen.driver seen.verified (boundary_for q None))
    (sym c.in-Lattice.is) (record { looks = seen.ensures.looks; same = refl })

pub returns-in_err-lattice-in-Lattice-clause-failed : goal.returns-in_err-lattice-in-Lattice-clause-failed
returns-in_err-lattice-in-Lattice-clause-failed g c =
    let holds = g.F.Files.holds c.args.subject.now.files.now in
    let path = c.in-Lattice.path in
    unsteered_listed holds c.args.class.now c.args.image.now c.args.policy path c.in-Lattice.field-1
    c.args.is_unbounded c.from_residual.result c.in-Lattice.is
    (handed (FailsBy (Unseen holds path.now c.args.image.now) (LacksClassAt holds path.now c.args.class.now))
    c.in_err-lattice-in-Lattice.field-0.0 c.from_residual.result c.from_residual.ensures.1
    c.in_err-lattice-in-Lattice.ensures.failed)

pub returns-in-Interface-clause-class : goal.returns-in-Interface-clause-class
returns-in-Interface-clause-class g c =
    let holds = g.F.Files.holds c.args.subject.now.files.now in
    IfOk-weaker c.by_interface.result
    (λ s. IsGoverned holds c.in-Interface.path.now c.args.class.now c.args.is_unbounded s.lattice s.driver
    s.verified (bound_by (option_map cycle s.cycle)))
    (λ s. IsClass (order s.lattice) s.driver) (λ s governed. governed.is) c.by_interface.ensures.governed

pub returns-in-Interface-clause-steered : goal.returns-in-Interface-clause-steered
returns-in-Interface-clause-steered g c =
    steered_governed (g.F.Files.holds c.args.subject.now.files.now) c.args.class.now c.args.policy c.in-Interface.path
    c.args.is_unbounded c.by_interface.result c.in-Interface.is c.by_interface.ensures.governed

pub returns-in-Interface-clause-failed : goal.returns-in-Interface-clause-failed
returns-in-Interface-clause-failed g c =
    unsteered_governed (g.F.Files.holds c.args.subject.now.files.now) c.args.class.now c.args.image.now c.args.policy
    c.in-Interface.path c.args.is_unbounded c.by_interface.result c.in-Interface.is c.by_interface.ensures.failed
