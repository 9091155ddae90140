use Rattle.std.proofs.Common.{◌≡◌, true, inl, inr, map}
use Rattle.vsi_conform.specs.Bounded.{demands_bound}
use Rattle.vsi_conform.specs.Reading.{cycle}
use Rattle.vsi_subject.specs.Refusals.{LacksClass, RefusesImage, FailsBy}
use Rattle.vsi_subject.specs.Undriven.{IsUnusable, LacksCycle, LacksGoverned, RefusesAsked, SaysDiffering, SaysLine}
use Rattle.vsi_subject.specs.Steering.{insisting_line}
use Rattle.vsi_subject.proofs.Reasons.{FailsBy-weaker, failed_by, handed}
use Rattle.vsi_requests.proofs.Steered.{WhyGoverned}
use Rattle.vsi_requests.proofs.steering.by_interface.Goals as goal

pub returns-clause-governed : goal.returns-clause-governed
returns-clause-governed g c = record {
  asked = c.in_ok-asked.asked;
  force = record {
    is_asked = c.in_ok-asked.ensures.asked;
    declared = c.in_ok-asked.ensures.declared;
    within = c.in_ok-asked.ensures.within;
  };
  named = c.in_ok-driver.ensures.named;
  is = c.in_ok-driver.ensures.within;
  conforms = c.in_ok-know_image.ensures.conforms;
  allows = c.in_ok-know_image.ensures.allows;
  bounded = c.in_ok-cycle.ensures.bounded;
  insists = c.in_ok-insist.ensures.insists;
}

pub returns-clause-held : goal.returns-clause-held
returns-clause-held g c =
    c.in_ok-verified.ensures.read

pub returns-in_err-asked-clause-failed : goal.returns-in_err-asked-clause-failed
returns-in_err-asked-clause-failed g c =
    let holds = g.F.Files.holds c.args.subject.now.files.now in
    let why = WhyGoverned holds c.args.interface.now c.args.image.now in
    let lacks = LacksGoverned holds c.args.interface.now c.args.class.now c.args.image.now c.args.is_unbounded in
    handed (FailsBy why lacks) c.in_err-asked.field-0.0 c.from_residual.result c.from_residual.ensures.1
    (FailsBy-weaker (RefusesAsked holds c.args.interface.now) why IsUnusable lacks (λ reason is. inl is)
    (λ failure is. inl is) c.in_err-asked.field-0.0 c.in_err-asked.ensures.failed)

pub returns-in_err-insist-clause-failed : goal.returns-in_err-insist-clause-failed
returns-in_err-insist-clause-failed g c =
    let holds = g.F.Files.holds c.args.subject.now.files.now in
    let why = WhyGoverned holds c.args.interface.now c.args.image.now in
    let lacks = LacksGoverned holds c.args.interface.now c.args.class.now c.args.image.now c.args.is_unbounded in
    handed (FailsBy why lacks) c.in_err-insist.field-0.0 c.from_residual-in_err-insist.result
    c.from_residual-in_err-insist.ensures.1
    (FailsBy-weaker (λ reason. ⊥) why
    (λ failure. (c.args.is_unbounded ≡ true) × (demands_bound c.in_ok-asked.asked.interface.bounded ≡ true)
    × SaysLine insisting_line failure) lacks
    (λ reason none. absurd none)
    (λ failure is. inr (inr (inr (record {
      unbounded = is.0;
      asked = c.in_ok-asked.asked;
      lattice = c.in_ok-asked.lattice;
      force = record {
        is_asked = c.in_ok-asked.ensures.asked;
        declared = c.in_ok-asked.ensures.declared;
        within = c.in_ok-asked.ensures.within;
      };
      required = is.1;
      says = is.2;
    }))))
    c.in_err-insist.field-0.0 c.in_err-insist.ensures.failed)

pub returns-in_err-driver-clause-failed : goal.returns-in_err-driver-clause-failed
returns-in_err-driver-clause-failed g c =
    let holds = g.F.Files.holds c.args.subject.now.files.now in
    let why = WhyGoverned holds c.args.interface.now c.args.image.now in
    let lacks = LacksGoverned holds c.args.interface.now c.args.class.now c.args.image.now c.args.is_unbounded in
    handed (FailsBy why lacks) c.in_err-driver.field-0.0 c.from_residual-in_err-driver.result
    c.from_residual-in_err-driver.ensures.1
    (FailsBy-weaker (λ reason. ⊥) why (LacksClass c.in_ok-asked.lattice c.args.class.now) lacks
    (λ reason none. absurd none)
    (λ failure is. inr (inl (record {
      asked = c.in_ok-asked.asked;
      lattice = c.in_ok-asked.lattice;
      force = record {
        is_asked = c.in_ok-asked.ensures.asked;
        declared = c.in_ok-asked.ensures.declared;
        within = c.in_ok-asked.ensures.within;
      };
      is = inl is;
    })))
    c.in_err-driver.field-0.0 c.in_err-driver.ensures.failed)

pub returns-in_err-verified-clause-failed : goal.returns-in_err-verified-clause-failed
returns-in_err-verified-clause-failed g c =
    let holds = g.F.Files.holds c.args.subject.now.files.now in
    failed_by (RefusesImage holds c.args.image.now) (WhyGoverned holds c.args.interface.now c.args.image.now)
    (LacksGoverned holds c.args.interface.now c.args.class.now c.args.image.now c.args.is_unbounded) (λ reason is.
    inr is) c.from_residual-in_err-verified.result c.in_err-verified.field-0.0
    c.from_residual-in_err-verified.ensures.1 c.in_err-verified.ensures.failed

pub returns-in_err-know_image-clause-failed : goal.returns-in_err-know_image-clause-failed
returns-in_err-know_image-clause-failed g c =
    let holds = g.F.Files.holds c.args.subject.now.files.now in
    let why = WhyGoverned holds c.args.interface.now c.args.image.now in
    let lacks = LacksGoverned holds c.args.interface.now c.args.class.now c.args.image.now c.args.is_unbounded in
    handed (FailsBy why lacks) c.in_err-know_image.field-0.0 c.from_residual-in_err-know_image.result
    c.from_residual-in_err-know_image.ensures.1
    (FailsBy-weaker (λ reason. ⊥) why
    (SaysDiffering c.in_ok-asked.lattice c.in_ok-verified.verified c.in_ok-asked.asked) lacks
    (λ reason none. absurd none)
    (λ failure is. inr (inr (inl (record {
      asked = c.in_ok-asked.asked;
      lattice = c.in_ok-asked.lattice;
      force = record {
        is_asked = c.in_ok-asked.ensures.asked;
        declared = c.in_ok-asked.ensures.declared;
        within = c.in_ok-asked.ensures.within;
      };
      image = c.in_ok-verified.verified;
      held = c.in_ok-verified.ensures.read;
      is = is;
    }))))
    c.in_err-know_image.field-0.0 c.in_err-know_image.ensures.failed)

pub returns-in_err-cycle-clause-failed : goal.returns-in_err-cycle-clause-failed
returns-in_err-cycle-clause-failed g c =
    let holds = g.F.Files.holds c.args.subject.now.files.now in
    let why = WhyGoverned holds c.args.interface.now c.args.image.now in
    let lacks = LacksGoverned holds c.args.interface.now c.args.class.now c.args.image.now c.args.is_unbounded in
    handed (FailsBy why lacks) c.in_err-cycle.field-0.0 c.from_residual-in_err-cycle.result
    c.from_residual-in_err-cycle.ensures.1
    (FailsBy-weaker (λ reason. ⊥) why
    (LacksCycle (map cycle c.in_ok-asked.asked.cycles.items) c.args.class.now) lacks
    (λ reason none. absurd none)
    (λ failure is. inr (inl (record {
      asked = c.in_ok-asked.asked;
      lattice = c.in_ok-asked.lattice;
      force = record {
        is_asked = c.in_ok-asked.ensures.asked;
        declared = c.in_ok-asked.ensures.declared;
        within = c.in_ok-asked.ensures.within;
      };
      is = inr is;
    })))
    c.in_err-cycle.field-0.0 c.in_err-cycle.ensures.failed)
