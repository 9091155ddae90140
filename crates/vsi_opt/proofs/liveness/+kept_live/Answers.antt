use Rattle.std.proofs.Common.{rules, ◌+◌, sym, ap, ◌∙◌, arith}
use Rattle.std.proofs.lemmas.Grind.{common_steps}
use Rattle.vsi_scope.specs.declared.program.Cmd.{the_lemmas}
use Rattle.vsi_opt.specs.Ranges.{bits}
use Rattle.vsi_opt.proofs.ReadingCases.{fits_if, fits_while, fits_letvar, fits_list, fits_at}
use Rattle.vsi_scope.specs.View.{sequence}
use Rattle.vsi_opt.specs.Loops.{noted, AddFits}
use Rattle.vsi_opt.proofs.LoopCases.{of_list, kept_in_loop_fits_noted}
use Rattle.vsi_opt.proofs.KeptLiveCases.{kept_live_stays, kept_live_if, before_if, before_while, kept_live_while, kept_live_letvar, before_letvar}
use Rattle.vsi_opt.proofs.liveness.+kept_live.Goals as goal

pub kept_live_all-kept_live_one-requires : goal.kept_live_all-kept_live_one-requires
kept_live_all-kept_live_one-requires t c =
    let h = fits_at c.args.scope c.args.body.now _ c.index-body-count.result (omega (arith, c.loop-j-test.true))
    c.index-body-count.is c.requires in
    (first_of (search (rules, the_lemmas), grind (arith, the_lemmas, common_steps), omega (arith, c.decreases)), h)

pub kept_live_one-kept_live_all-requires : goal.kept_live_one-kept_live_all-requires
kept_live_one-kept_live_all-requires t c =
    let f = fits_if c.args.scope c.args.c.now c.in-If.guard c.in-If.yes c.in-If.no c.in-If.is c.requires in (
      first_of (search (rules, the_lemmas), grind (arith, the_lemmas, common_steps), omega (arith, c.decreases)),
      fits_list c.args.scope _ _ c.deref.ensures.value f.2,
    )

pub kept_live_one-kept_live_all-requires-in-If : goal.kept_live_one-kept_live_all-requires-in-If
kept_live_one-kept_live_all-requires-in-If t c =
    let f = fits_if c.args.scope c.args.c.now c.in-If.guard c.in-If.yes c.in-If.no c.in-If.is c.requires in (
      first_of (search (rules, the_lemmas), grind (arith, the_lemmas, common_steps), omega (arith, c.decreases)),
      fits_list c.args.scope _ _ c.deref-in-If.ensures.value f.1,
    )

pub kept_live_one-add_all-requires : goal.kept_live_one-add_all-requires
kept_live_one-add_all-requires t c =
    let f = fits_while c.args.scope c.args.c.now c.in-While.guard c.in-While.body c.in-While.is c.requires in
    of_list (AddFits c.args.scope 0) _ _ c.deref-in-While.ensures.value (f.1, omega (arith, f.2))

pub kept_live_one-kept_in_loop_all-requires : goal.kept_live_one-kept_in_loop_all-requires
kept_live_one-kept_in_loop_all-requires t c =
    let f = fits_while c.args.scope c.args.c.now c.in-While.guard c.in-While.body c.in-While.is c.requires in
    let same = c.deref-in-While.ensures.value ∙ sym c.deref-in-While-2.ensures.value in
    kept_in_loop_fits_noted c.args.scope c.in-While.body.items _ (bits c.below-own.result) (bits c.add_all.new.own) f.1
    f.2 c.deref-in-While-2.ensures.value
    (c.add_all.ensures.1 ∙ ap (λ l. noted c.args.scope 0 (sequence l) (bits c.below-own.result)) same)

pub kept_live_one-kept_live_all-requires-in-Letvar : goal.kept_live_one-kept_live_all-requires-in-Letvar
kept_live_one-kept_live_all-requires-in-Letvar t c =
    let f = fits_letvar c.args.scope c.args.c.now c.in-Letvar.value c.in-Letvar.body c.in-Letvar.is c.requires in (
      first_of (search (rules, the_lemmas), grind (arith, the_lemmas, common_steps), omega (arith, c.decreases)),
      fits_list (c.args.scope + 1) _ _ c.deref-in-Letvar.ensures.value f.2,
    )

pub kept_live_one-returns-in_ok-push-in-If : goal.kept_live_one-returns-in_ok-push-in-If
kept_live_one-returns-in_ok-push-in-If t c =
    let live = bits c.args.live.now in (
      kept_live_if c.args.globals c.args.scope live c.args.c.now c.in-If.guard c.in_ok-guard-in-If.guard c.in-If.yes
          c.in-If.no c.in_ok-yes-in-If.yes c.in_ok-no-in-If.no _ _ _ _
          c.in-If.is c.deref-in-If.ensures.value c.deref.ensures.value c.in_ok-guard-in-If.ensures
          c.in_ok-yes-in-If.ensures.0 c.in_ok-no-in-If.ensures.0 c.in_ok-push-in-If.ensures.items,
      before_if c.args.globals c.args.scope live c.args.c.now c.in-If.guard c.in-If.yes c.in-If.no _ _
          (bits c.kept_live_all-in-If.new.live) (bits c.kept_live_all.new.live) (bits c.join.new.self) _
          c.in-If.is c.deref-in-If.ensures.value c.deref.ensures.value c.in_ok-yes-in-If.ensures.1
          c.in_ok-no-in-If.ensures.1 c.join.ensures c.add_reads-in-If.ensures,
    )

pub kept_live_one-returns-in_ok-push-in-While : goal.kept_live_one-returns-in_ok-push-in-While
kept_live_one-returns-in_ok-push-in-While t c =
    let live = bits c.args.live.now in
    let b = before_while c.args.globals c.args.scope live c.args.c.now c.in-While.guard c.in-While.body _
    (bits c.add_reads-in-While.new.live) (bits c.add_all.new.live)
    c.in-While.is c.deref-in-While.ensures.value c.add_reads-in-While.ensures c.add_all.ensures.0 in (
      kept_live_while c.args.globals c.args.scope live c.args.c.now c.in-While.guard c.in_ok-guard-in-While.guard
          c.in-While.body c.in_ok-body-in-While.body _ _ _ (bits c.add_all.new.live)
          c.in-While.is c.deref-in-While-2.ensures.value c.in_ok-guard-in-While.ensures b
          c.in_ok-body-in-While.ensures.0 c.in_ok-push-in-While.ensures.items,
      b,
    )

pub kept_live_one-returns-in_ok-push-in-Letvar : goal.kept_live_one-returns-in_ok-push-in-Letvar
kept_live_one-returns-in_ok-push-in-Letvar t c =
    let live = bits c.args.live.now in (
      kept_live_letvar c.args.globals c.args.scope live c.args.c.now c.in-Letvar.value c.in_ok-value-in-Letvar.value
          c.in-Letvar.body c.in_ok-body-in-Letvar.body _ _ _ (bits c.remove.new.self)
          c.in-Letvar.is c.deref-in-Letvar.ensures.value c.in_ok-value-in-Letvar.ensures c.remove.ensures
          c.in_ok-body-in-Letvar.ensures.0 c.in_ok-push-in-Letvar.ensures.items,
      before_letvar c.args.globals c.args.scope live c.args.c.now c.in-Letvar.value c.in-Letvar.body _
          (bits c.remove.new.self) (bits c.kept_live_all-in-Letvar.new.live) (bits c.remove-in-Letvar.new.self) _
          c.in-Letvar.is c.deref-in-Letvar.ensures.value c.remove.ensures c.in_ok-body-in-Letvar.ensures.1
          c.remove-in-Letvar.ensures c.add_reads-in-Letvar.ensures,
    )

pub kept_live_one-returns-in_ok-push-in-Assign : goal.kept_live_one-returns-in_ok-push-in-Assign
kept_live_one-returns-in_ok-push-in-Assign t c =
    kept_live_stays c.args.globals c.args.scope (bits c.args.live.now) c.args.c.now
    c.in_ok-copy_assignment-in-Assign.field-0
    c.in-Assign.loc c.in-Assign.span c.in-Assign.value _ _ c.contains.result (bits c.take_out.new.live)
    _ c.in-Assign.is
    c.in_ok-copy_assignment-in-Assign.ensures c.contains.ensures c.if-contains.true c.take_out.ensures
    c.add_reads.ensures c.in_ok-push-in-Assign.ensures.items
