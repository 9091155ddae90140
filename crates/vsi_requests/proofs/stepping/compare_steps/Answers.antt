use Rattle.std.proofs.Common.{Err, inl, inr, subst}
use Rattle.std.proofs.lemmas.Result.{IfErr-weaker, IfOk-weaker}
use Rattle.std.specs.Prelude.{Some}
use Rattle.vsi_answers.specs.Answers.{Because}
use Rattle.vsi_answers.specs.Judged.{IsProgramFault, TellsSource}
use Rattle.vsi_image.specs.Fields.{globals}
use Rattle.vsi_subject.specs.Refusals.{FailsBy, LacksClassAt, NoOther, RefusesLattice}
use Rattle.vsi_subject.specs.Stepping.{Compared, ComparesSteps}
use Rattle.vsi_subject.specs.Unstepped.{Spends, WhyCompareSteps}
use Rattle.vsi_subject.proofs.Reasons.{failed_by, fails_by, late_failed}
use Rattle.vsi_requests.proofs.Stepped.{compares, refuses_store, spends}
use Rattle.vsi_subject.proofs.Unrun.{RefusesWords, lacks_failed, memory_failed}
use Rattle.vsi_requests.proofs.stepping.compare_steps.Goals as goal

pub returns-clause-told : goal.returns-clause-told
returns-clause-told g c =
    let holds = g.F.Files.holds c.args.subject.now.files.now in
    let source = c.in_ok-source.source in
    let im = c.in_ok-verified.verified in
    IfOk-weaker c.together.result
    (λ reply. Compared source.lattice c.in_ok-class.class source.resolved (globals im.globals.items)
    c.deref-2.result.now c.deref-3.result.now c.args.asked.budget reply.is_good)
    (λ reply. ComparesSteps holds c.args.asked reply.is_good)
    (λ reply is. compares holds c.args.asked c.in_ok-lattice.lattice c.in_ok-class.class c.in_ok-text.text.items
    c.deref.result.now source im
    (record {
      lattice = c.in_ok-lattice.ensures.read;
      named = c.in_ok-class.ensures.named;
      is = c.in_ok-class.ensures.within;
    })
    c.in_ok-text.ensures.read c.deref.ensures.value c.in_ok-source.ensures.lattice c.in_ok-source.ensures.text
    c.in_ok-verified.ensures.made c.in_ok-first.first.items c.in_ok-second.second.items c.deref-2.result.now
    c.deref-3.result.now reply.is_good c.in_ok-first.ensures.stored c.in_ok-second.ensures.stored
    c.deref-2.ensures.value c.deref-3.ensures.value is)
    c.together.ensures.told

pub returns-clause-failed : goal.returns-clause-failed
returns-clause-failed g c =
    let holds = g.F.Files.holds c.args.subject.now.files.now in
    let source = c.in_ok-source.source in
    let spent = Spends source.resolved c.deref-2.result.now c.deref-3.result.now c.args.asked.budget in
    let why = WhyCompareSteps holds c.args.asked in
    let lacks = LacksClassAt holds c.args.asked.lattice.now c.args.asked.class.now in
    IfErr-weaker c.together.result (FailsBy spent NoOther) (FailsBy why lacks)
    (fails_by spent why lacks
    (λ reason is. inr (inr (inr (inr (spends holds c.args.asked c.in_ok-lattice.lattice c.in_ok-class.class
    c.in_ok-text.text.items c.deref.result.now source c.in_ok-verified.verified
    (record {
      lattice = c.in_ok-lattice.ensures.read;
      named = c.in_ok-class.ensures.named;
      is = c.in_ok-class.ensures.within;
    })
    c.in_ok-text.ensures.read c.deref.ensures.value c.in_ok-source.ensures.lattice c.in_ok-source.ensures.text
    c.in_ok-verified.ensures.made c.in_ok-first.first.items c.in_ok-second.second.items c.deref-2.result.now
    c.deref-3.result.now c.in_ok-first.ensures.stored c.in_ok-second.ensures.stored c.deref-2.ensures.value
    c.deref-3.ensures.value reason is))))))
    c.together.ensures.failed

pub returns-in_err-lattice-clause-failed : goal.returns-in_err-lattice-clause-failed
returns-in_err-lattice-clause-failed g c =
    let holds = g.F.Files.holds c.args.subject.now.files.now in
    failed_by (RefusesLattice holds c.args.asked.lattice.now) (WhyCompareSteps holds c.args.asked)
    (LacksClassAt holds c.args.asked.lattice.now c.args.asked.class.now) (λ reason is. inl is) c.from_residual.result
    c.in_err-lattice.field-0.0 c.from_residual.ensures.1 c.in_err-lattice.ensures.failed

pub returns-in_err-class-clause-failed : goal.returns-in_err-class-clause-failed
returns-in_err-class-clause-failed g c =
    let holds = g.F.Files.holds c.args.subject.now.files.now in
    lacks_failed holds c.args.asked.lattice.now c.args.asked.class.now (WhyCompareSteps holds c.args.asked)
    c.in_ok-lattice.lattice c.from_residual-in_err-class.result c.in_err-class.field-0.0 c.in_ok-lattice.ensures.read
    c.from_residual-in_err-class.ensures.1 c.in_err-class.ensures.failed

pub returns-in_err-text-clause-failed : goal.returns-in_err-text-clause-failed
returns-in_err-text-clause-failed g c =
    let holds = g.F.Files.holds c.args.subject.now.files.now in
    late_failed (WhyCompareSteps holds c.args.asked)
    (LacksClassAt holds c.args.asked.lattice.now c.args.asked.class.now) c.from_residual-in_err-text.result
    c.in_err-text.field-0.0 c.from_residual-in_err-text.ensures.1 c.in_err-text.ensures.failed

pub returns-in_err-source-clause-failed : goal.returns-in_err-source-clause-failed
returns-in_err-source-clause-failed g c =
    let holds = g.F.Files.holds c.args.subject.now.files.now in
    let l = c.in_ok-lattice.lattice in
    let given = c.deref.result.now in
    failed_by (Because (TellsSource (IsProgramFault l given) l given) ⊥) (WhyCompareSteps holds c.args.asked)
    (LacksClassAt holds c.args.asked.lattice.now c.args.asked.class.now)
    (λ reason why. inr (inl (record {
      classes = l;
      declared = c.in_ok-lattice.ensures.read;
      refused = record {
        text = c.in_ok-text.text.items;
        read = c.in_ok-text.ensures.read;
        is = subst (λ t. Because (TellsSource (IsProgramFault l t) l t) ⊥ reason) c.deref.ensures.value why;
      };
    })))
    c.from_residual-in_err-source.result c.in_err-source.field-0.0 c.from_residual-in_err-source.ensures.1
    c.in_err-source.ensures.failed

pub returns-in_err-verified-clause-failed : goal.returns-in_err-verified-clause-failed
returns-in_err-verified-clause-failed g c =
    let holds = g.F.Files.holds c.args.subject.now.files.now in
    memory_failed (WhyCompareSteps holds c.args.asked)
    (LacksClassAt holds c.args.asked.lattice.now c.args.asked.class.now) c.from_residual-in_err-verified.result
    c.in_err-verified.field-0.0 c.from_residual-in_err-verified.ensures.1 c.in_err-verified.ensures.memory

pub returns-in_err-first-clause-failed : goal.returns-in_err-first-clause-failed
returns-in_err-first-clause-failed g c =
    let holds = g.F.Files.holds c.args.subject.now.files.now in
    let im = c.in_ok-verified.verified in
    failed_by (RefusesWords holds (Some c.args.asked.stores.0) im) (WhyCompareSteps holds c.args.asked)
    (LacksClassAt holds c.args.asked.lattice.now c.args.asked.class.now)
    (λ reason is. inr (inr (inl (refuses_store holds c.args.asked c.in_ok-lattice.lattice c.in_ok-class.class
    c.in_ok-text.text.items c.deref.result.now c.in_ok-source.source im
    (record {
      lattice = c.in_ok-lattice.ensures.read;
      named = c.in_ok-class.ensures.named;
      is = c.in_ok-class.ensures.within;
    })
    c.in_ok-text.ensures.read c.deref.ensures.value c.in_ok-source.ensures.lattice c.in_ok-source.ensures.text
    c.in_ok-verified.ensures.made (Some c.args.asked.stores.0) reason is))))
    c.from_residual-in_err-first.result c.in_err-first.field-0.0 c.from_residual-in_err-first.ensures.1
    c.in_err-first.ensures.failed

pub returns-in_err-second-clause-failed : goal.returns-in_err-second-clause-failed
returns-in_err-second-clause-failed g c =
    let holds = g.F.Files.holds c.args.subject.now.files.now in
    let im = c.in_ok-verified.verified in
    failed_by (RefusesWords holds (Some c.args.asked.stores.1) im) (WhyCompareSteps holds c.args.asked)
    (LacksClassAt holds c.args.asked.lattice.now c.args.asked.class.now)
    (λ reason is. inr (inr (inr (inl (refuses_store holds c.args.asked c.in_ok-lattice.lattice c.in_ok-class.class
    c.in_ok-text.text.items c.deref.result.now c.in_ok-source.source im
    (record {
      lattice = c.in_ok-lattice.ensures.read;
      named = c.in_ok-class.ensures.named;
      is = c.in_ok-class.ensures.within;
    })
    c.in_ok-text.ensures.read c.deref.ensures.value c.in_ok-source.ensures.lattice c.in_ok-source.ensures.text
    c.in_ok-verified.ensures.made (Some c.args.asked.stores.1) reason is)))))
    c.from_residual-in_err-second.result c.in_err-second.field-0.0 c.from_residual-in_err-second.ensures.1
    c.in_err-second.ensures.failed
