use Rattle.std.proofs.Common.{rules, arith, ◌+◌, ◌-◌, Some, ap, sym, subst, ◌∙◌, refl}
use Rattle.std.proofs.lemmas.Option.{slice_get-get_or}
use Rattle.std.proofs.lemmas.Grind.{common_steps}
use Rattle.vsi_machine.specs.Search.{stays, goes_on, assigns, Stuck, Fails}
use Rattle.vsi_machine.specs.Stretch.{Evaluates}
use Rattle.vsi_machine.proofs.Running.{leads_both, leads_nowhere, choice_leads}
use Rattle.vsi_machine.proofs.Commands.{store_leads, first_leads, second_leads_as}
use Rattle.vsi_machine.proofs.Turning.{loop_leads_as}
use Rattle.vsi_machine.proofs.Searching.{reaches_to, reaches_as, passed, stuck_later, fails_first, fails_second, passes_choice, round_as, passes_turns, fails_body, fails_here}
use Rattle.vsi_machine.proofs.stretches.+stretches.Goals as goal

pub stretch-loop-turn-init : goal.stretch-loop-turn-init
stretch-loop-turn-init t c =
    record {
      leads = leads_nowhere _ _ _ _ _ refl c.exactly-cost.ensures.least c.exactly-cost.ensures.most;
      reaches = stays;
    }

pub stretch-loop-turn-preserved : goal.stretch-loop-turn-preserved
stretch-loop-turn-preserved t c =
    record {
      leads = leads_both _ _ _ _ _ _ _ _ _ _ c.loop-turn.invariant.leads c.in_ok-next.ensures.leads
          c.in_ok-cost.ensures.least c.in_ok-cost.ensures.most;
      reaches = goes_on c.loop-turn.invariant.reaches c.in_ok-next.ensures.passes;
    }

pub stretch-returns-in_err-next-clause-stuck : goal.stretch-returns-in_err-next-clause-stuck
stretch-returns-in_err-next-clause-stuck t c =
    passed c.from_residual.result c.in_err-next.field-0.0
    (Stuck c.args.code.now c.args.facts.now c.args.from c.args.to) c.from_residual.ensures.1
    (stuck_later c.args.code.now c.args.facts.now c.loop-turn.facts c.args.from c.loop-turn.place c.args.to
    c.in_err-next.field-0.0 c.loop-turn.invariant.reaches (omega (arith, c.if-place-to.false))
    c.in_err-next.ensures.fails)

pub stretch-returns-then-place-to-2-clause-reaches : goal.stretch-returns-then-place-to-2-clause-reaches
stretch-returns-then-place-to-2-clause-reaches t c =
    reaches_to _ _ _ _ _ _ c.loop-turn.invariant.reaches c.if-place-to-2.true

pub command-returns-in_ok-store-in-Store-clause-leads : goal.command-returns-in_ok-store-in-Store-clause-leads
command-returns-in_ok-store-in-Store-clause-leads t c =
    store_leads _ _ _ _ _ _ (c.in_ok-place.place - c.args.start + 1) _ _ c.in_ok-place.ensures.value
    (slice_get-get_or _ _ _ c.in_ok-place.ensures.within ∙ ap Some c.in-Store.is) c.in_ok-store-in-Store.ensures
    (omega (arith, c.in_ok-place.ensures.after)) c.exactly-taken.ensures.least c.exactly-taken.ensures.most

pub command-returns-in_ok-store-in-Store-clause-passes : goal.command-returns-in_ok-store-in-Store-clause-passes
command-returns-in_ok-store-in-Store-clause-passes t c =
    assigns _ _ _ c.in_ok-place.ensures.exact
    (slice_get-get_or _ _ _ c.in_ok-place.ensures.within ∙ ap Some c.in-Store.is) c.in_ok-store-in-Store.ensures refl

pub command-returns-in_ok-whole-in-Jz-clause-leads : goal.command-returns-in_ok-whole-in-Jz-clause-leads
command-returns-in_ok-whole-in-Jz-clause-leads t c =
    let test = c.in_ok-test-in-Jz in
    choice_leads _ _ _ _ test.test.place _ _ (c.in_ok-place.place - c.args.start + 1) _ _ _
    (subst (λ n. Evaluates c.args.code.now c.args.facts.now c.args.start n c.in_ok-place.value)
    (sym test.ensures.place) c.in_ok-place.ensures.value)
    test.ensures.test.tests (omega (arith, c.in_ok-place.ensures.after, test.ensures.place))
    c.in_ok-ways-in-Jz.ensures.first c.in_ok-ways-in-Jz.ensures.second
    (omega (arith, c.in_ok-whole-in-Jz.ensures.least, c.exactly-taken.ensures.least))
    (omega (arith, c.in_ok-whole-in-Jz.ensures.most, c.exactly-taken.ensures.most))

pub branches-returns-clause-first : goal.branches-returns-clause-first
branches-returns-clause-first t c =
    first_leads _ _ _ _ _ _ _ _ _ _ _ _ c.in_ok-first.ensures.leads c.requires.choice.test.jumps c.join.ensures
    (omega (arith, c.in_ok-more.ensures.least, c.exactly.ensures.least))
    (omega (arith, c.in_ok-more.ensures.most, c.exactly.ensures.most)) c.min.ensures c.max.ensures

pub branches-returns-clause-second : goal.branches-returns-clause-second
branches-returns-clause-second t c =
    second_leads_as _ _ _ _ _ _ _ _ _ _ _ _ c.in_ok-second.ensures.leads c.join.ensures c.min.ensures
    c.max.ensures (first_of (search rules, grind (arith, common_steps))) (first_of (search rules, grind (arith, common_steps))) (first_of (search rules, grind (arith, common_steps)))

pub branches-returns-clause-passes : goal.branches-returns-clause-passes
branches-returns-clause-passes t c =
    passes_choice _ _ _ _ _ _ _ c.args.test c.requires.choice c.in_ok-first.ensures.reaches
    c.in_ok-second.ensures.reaches c.join.ensures (first_of (search rules, grind (arith, common_steps)))
    (first_of (search rules, grind (arith, common_steps)))

pub branches-returns-in_err-first-clause-fails : goal.branches-returns-in_err-first-clause-fails
branches-returns-in_err-first-clause-fails t c =
    passed c.from_residual-in_err-first.result c.in_err-first.field-0.0
    (Fails c.args.code.now c.args.facts.now c.args.test.start) c.from_residual-in_err-first.ensures.1
    (fails_first c.args.code.now c.args.facts.now c.args.test c.in_err-first.field-0.0 c.requires.choice
    c.in_err-first.ensures.stuck)

pub branches-returns-in_err-second-clause-fails : goal.branches-returns-in_err-second-clause-fails
branches-returns-in_err-second-clause-fails t c =
    passed c.from_residual-in_err-second.result c.in_err-second.field-0.0
    (Fails c.args.code.now c.args.facts.now c.args.test.start) c.from_residual-in_err-second.ensures.1
    (fails_second c.args.code.now c.args.facts.now c.deref_mut.result.now c.stretch.new.facts c.args.test
    c.in_err-second.field-0.0 c.requires.choice c.in_ok-first.ensures.reaches c.in_err-second.ensures.stuck
    (first_of (search rules, grind (arith, common_steps))))

pub turns-returns-clause-leads : goal.turns-returns-clause-leads
turns-returns-clause-leads t c =
    loop_leads_as _ _ _ _ _ _ _ _ _ _ _ _ _ _ _ _ _ _ _ c.in_ok-entry.ensures c.in_ok-guard.ensures.value
    c.in_ok-body.ensures.leads c.in_ok-cost.ensures.finished c.requires.test.tests c.requires.test.jumps
    c.requires.back (omega (arith, c.requires.test.order)) (first_of (search rules, grind (arith, common_steps)))
    (first_of (search rules, grind (arith, common_steps))) (first_of (search rules, grind (arith, common_steps)))
    (first_of (search rules, grind (arith, common_steps))) (first_of (search rules, grind (arith, common_steps)))

pub turns-returns-clause-passes : goal.turns-returns-clause-passes
turns-returns-clause-passes t c =
    passes_turns _ _ c.deref-2.result.now c.deref-3.result.now _ c.in_ok-guard.guard c.args.test _ _ _
    (round_as _ _ _ _ c.deref-2.result.now c.in_ok-guard.guard c.args.test c.requires.test
    c.requires.back
    c.in_ok-entry.ensures c.in_ok-guard.ensures.exact (first_of (search rules, grind (arith, common_steps)))
    (first_of (search rules, grind (arith, common_steps))))
    (reaches_as _ _ _ _ _ _ _ c.in_ok-body.ensures.reaches (first_of (search rules, grind (arith, common_steps)))
    (first_of (search rules, grind (arith, common_steps))))
    c.in_ok-cost.ensures.finished

pub turns-returns-in_err-body-clause-fails : goal.turns-returns-in_err-body-clause-fails
turns-returns-in_err-body-clause-fails t c =
    passed c.from_residual-in_err-body.result c.in_err-body.field-0.0
    (Fails c.args.code.now c.args.facts.now c.args.test.start) c.from_residual-in_err-body.ensures.1
    (fails_body c.args.code.now c.args.facts.now c.deref_mut.result.now c.in_ok-guard.guard c.args.test
    c.in_err-body.field-0.0
    (round_as _ _ _ _ c.deref_mut.result.now c.in_ok-guard.guard c.args.test c.requires.test
    c.requires.back
    c.in_ok-entry.ensures c.in_ok-guard.ensures.exact (first_of (search rules, grind (arith, common_steps)))
    (first_of (search rules, grind (arith, common_steps)))) c.in_err-body.ensures.stuck)

pub turns-returns-in_err-cost-clause-fails : goal.turns-returns-in_err-cost-clause-fails
turns-returns-in_err-cost-clause-fails t c =
    passed c.from_residual-in_err-cost.result c.in_err-cost.field-0.0
    (Fails c.args.code.now c.args.facts.now c.args.test.start) c.from_residual-in_err-cost.ensures.1
    (fails_here c.args.code.now c.args.facts.now c.deref-2.result.now c.deref-3.result.now c.in_ok-guard.guard
    c.args.test c.in_err-cost.field-0.0
    (round_as _ _ _ _ c.deref-2.result.now c.in_ok-guard.guard c.args.test c.requires.test
    c.requires.back
    c.in_ok-entry.ensures c.in_ok-guard.ensures.exact (first_of (search rules, grind (arith, common_steps)))
    (first_of (search rules, grind (arith, common_steps))))
    (reaches_as _ _ _ _ _ _ _ c.in_ok-body.ensures.reaches (first_of (search rules, grind (arith, common_steps)))
    (first_of (search rules, grind (arith, common_steps))))
    c.in_err-cost.ensures.fails)
