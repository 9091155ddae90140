use Rattle.std.proofs.Common.{◌∙◌, inl, inr}
use Rattle.std.specs.Prelude.{Some}
use Rattle.vsi_subject.specs.Holding.{IsLatticeAt}
use Rattle.vsi_subject.specs.Refusals.{LacksClassAt}
use Rattle.vsi_subject.specs.Reasons.{LacksCompare, WhyCompare}
use Rattle.vsi_subject.proofs.CarriedOut.{each_failure}
use Rattle.vsi_subject.proofs.Reasons.{handed_reason}
use Rattle.vsi_requests.proofs.Undriven.{falls_short}
use Rattle.vsi_subject.proofs.Unrun.{more_failed, store_failed, unbounded_failed, unseen_failed}
use Rattle.vsi_requests.proofs.running.compare.Goals as goal

pub returns-clause-told : goal.returns-clause-told
returns-clause-told g c = record {
  lattice = c.in_ok-lattice.lattice;
  viewer = c.in_ok-lattice.viewer;
  image = c.in_ok-lattice.verified;
  first = c.in_ok-first.first.items;
  second = c.in_ok-second.second.items;
  budget = c.in_ok-budget.budget;
  read = record {
    looks = c.in_ok-lattice.ensures.looks;
    held = c.in_ok-lattice.ensures.held;
    from_first = c.in_ok-first.ensures.stored;
    from_second = c.in_ok-second.ensures.stored;
    within = c.in_ok-budget.ensures.budget;
    admitted = c.in_ok-admit.ensures.admitted;
  };
  is = c.in_ok-reply.ensures.told;
}

pub returns-clause-noted : goal.returns-clause-noted
returns-clause-noted g c = λ fresh. record {
  lattice = c.in_ok-lattice.lattice;
  declared = c.in_ok-lattice.ensures.looks.lattice;
  image = c.in_ok-lattice.verified;
  held = c.in_ok-lattice.ensures.held;
  budget = c.in_ok-budget.budget;
  within = c.in_ok-budget.ensures.budget;
  is = c.in_ok-admit.ensures.told fresh;
}

pub returns-in_err-admit-clause-failed : goal.returns-in_err-admit-clause-failed
returns-in_err-admit-clause-failed g c =
    let holds = g.F.Files.holds c.args.subject.now.files.now in
    falls_short holds c.args.asked.is_unbounded (IsLatticeAt holds c.args.asked.lattice.now) c.args.asked.image.now
    c.args.asked.budget (WhyCompare holds c.args.asked) (LacksCompare holds c.args.asked) c.in_ok-lattice.lattice
    c.in_ok-lattice.verified c.in_ok-budget.budget c.from_residual-in_err-admit.result c.in_err-admit.field-0.0
    c.in_ok-lattice.ensures.looks.lattice c.in_ok-lattice.ensures.held c.in_ok-budget.ensures.budget
    (λ s short. inr short) c.from_residual-in_err-admit.ensures.1 c.in_err-admit.ensures.failed

pub returns-in_err-lattice-clause-failed : goal.returns-in_err-lattice-clause-failed
returns-in_err-lattice-clause-failed g c =
    let holds = g.F.Files.holds c.args.subject.now.files.now in
    let why = WhyCompare holds c.args.asked in
    more_failed why (LacksClassAt holds c.args.asked.lattice.now c.args.asked.class.now)
    (LacksCompare holds c.args.asked) c.from_residual.result (λ failure lacks. inl (inl lacks))
    (unseen_failed holds c.args.asked.lattice.now c.args.asked.image.now why
    (LacksClassAt holds c.args.asked.lattice.now c.args.asked.class.now) c.from_residual.result
    c.in_err-lattice.field-0.0 (λ reason is. inl is) (λ reason is. inr (inl is)) c.from_residual.ensures.1
    c.in_err-lattice.ensures.failed)

pub returns-in_err-first-clause-failed : goal.returns-in_err-first-clause-failed
returns-in_err-first-clause-failed g c =
    let holds = g.F.Files.holds c.args.subject.now.files.now in
    let why = WhyCompare holds c.args.asked in
    store_failed holds c.args.asked.image.now (Some c.args.asked.stores.0) why (LacksCompare holds c.args.asked)
    c.in_ok-lattice.verified c.from_residual-in_err-first.result c.in_err-first.field-0.0
    c.in_ok-lattice.ensures.held (λ reason is. inr (inr (inl is))) c.from_residual-in_err-first.ensures.1
    c.in_err-first.ensures.failed

pub returns-in_err-second-clause-failed : goal.returns-in_err-second-clause-failed
returns-in_err-second-clause-failed g c =
    let holds = g.F.Files.holds c.args.subject.now.files.now in
    let why = WhyCompare holds c.args.asked in
    store_failed holds c.args.asked.image.now (Some c.args.asked.stores.1) why (LacksCompare holds c.args.asked)
    c.in_ok-lattice.verified c.from_residual-in_err-second.result c.in_err-second.field-0.0
    c.in_ok-lattice.ensures.held (λ reason is. inr (inr (inr (inl is))))
    c.from_residual-in_err-second.ensures.1 c.in_err-second.ensures.failed

pub returns-in_err-budget-clause-failed : goal.returns-in_err-budget-clause-failed
returns-in_err-budget-clause-failed g c =
    let holds = g.F.Files.holds c.args.subject.now.files.now in
    unbounded_failed holds c.args.asked.image.now c.args.asked.budget c.in_ok-lattice.verified
    (WhyCompare holds c.args.asked) (LacksCompare holds c.args.asked)
    c.from_residual-in_err-budget.result c.in_err-budget.field-0.0 c.in_ok-lattice.ensures.held
    (λ s lacks. inl (inr lacks)) c.from_residual-in_err-budget.ensures.1 c.in_err-budget.ensures.failed

pub returns-in_err-reply-clause-failed : goal.returns-in_err-reply-clause-failed
returns-in_err-reply-clause-failed g c =
    let holds = g.F.Files.holds c.args.subject.now.files.now in
    handed_reason (WhyCompare holds c.args.asked) (LacksCompare holds c.args.asked) c.in_err-reply.field-0.0
    c.from_residual-in_err-reply.result c.from_residual-in_err-reply.ensures.1
    (inr (inr (inr (inr (record {
      lattice = c.in_ok-lattice.lattice;
      viewer = c.in_ok-lattice.viewer;
      image = c.in_ok-lattice.verified;
      first = c.in_ok-first.first.items;
      second = c.in_ok-second.second.items;
      budget = c.in_ok-budget.budget;
      read = record {
        looks = c.in_ok-lattice.ensures.looks;
        held = c.in_ok-lattice.ensures.held;
        from_first = c.in_ok-first.ensures.stored;
        from_second = c.in_ok-second.ensures.stored;
        within = c.in_ok-budget.ensures.budget;
        admitted = c.in_ok-admit.ensures.admitted;
      };
      is = c.in_err-reply.ensures.failed;
    })))))

pub compare_runs-requires-clause-viewer : goal.compare_runs-requires-clause-viewer
compare_runs-requires-clause-viewer g c = c.in_ok-lattice.ensures.looks.is

-- ---- what is noted before a failure.

pub returns-in_err-lattice-clause-hushed : goal.returns-in_err-lattice-clause-hushed
returns-in_err-lattice-clause-hushed g c = λ fresh. each_failure _ c.from_residual.result (λ failure. inl fresh)

pub returns-in_err-first-clause-hushed : goal.returns-in_err-first-clause-hushed
returns-in_err-first-clause-hushed g c = λ fresh. each_failure _ c.from_residual-in_err-first.result (λ failure. inl
    fresh)

pub returns-in_err-second-clause-hushed : goal.returns-in_err-second-clause-hushed
returns-in_err-second-clause-hushed g c = λ fresh. each_failure _ c.from_residual-in_err-second.result (λ failure.
    inl fresh)

pub returns-in_err-budget-clause-hushed : goal.returns-in_err-budget-clause-hushed
returns-in_err-budget-clause-hushed g c = λ fresh. each_failure _ c.from_residual-in_err-budget.result (λ failure.
    inl fresh)

pub returns-in_err-admit-clause-hushed : goal.returns-in_err-admit-clause-hushed
returns-in_err-admit-clause-hushed g c = λ fresh.
    each_failure _ c.from_residual-in_err-admit.result (λ failure. inl (c.in_err-admit.ensures.quiet ∙ fresh))

pub returns-in_err-reply-clause-hushed : goal.returns-in_err-reply-clause-hushed
returns-in_err-reply-clause-hushed g c = λ fresh.
    each_failure _ c.from_residual-in_err-reply.result (λ failure. inr (record {
      lattice = c.in_ok-lattice.lattice;
      declared = c.in_ok-lattice.ensures.looks.lattice;
      image = c.in_ok-lattice.verified;
      held = c.in_ok-lattice.ensures.held;
      budget = c.in_ok-budget.budget;
      within = c.in_ok-budget.ensures.budget;
      is = c.in_ok-admit.ensures.told fresh;
    }))
