use Rattle.std.proofs.Common.{rules, sym, ap, ◌∙◌, arith}
use Rattle.std.proofs.lemmas.Grind.{common_steps}
use Rattle.std.proofs.lemmas.Result.{on_ok_weaker}
use Rattle.vsi_scope.specs.declared.program.Cmd.{the_lemmas}
use Rattle.vsi_scope.specs.Language.{letvars}
use Rattle.vsi_scope.specs.View.{sequence}
use Rattle.vsi_opt.proofs.Numbers.{letvars_if, letvars_while, letvars_letvar, letvars_from, letvars_end, picks_more, picks_end, picks_if, picks_while, picks_letvar}
use Rattle.vsi_opt.proofs.optimiser.+picking.Goals as goal

pub pick_all-pick_one-requires : goal.pick_all-pick_one-requires
pick_all-pick_one-requires t c =
    let n = letvars_from c.args.body.now c.loop-c.c-index c.c-item.result c.loop-c-test.true c.c-item.is in (
      first_of (search (rules, the_lemmas), grind (arith, the_lemmas, common_steps)),
      omega
          (arith, n, c.loop-c.invariant.0, c.requires),
    )

pub pick_all-loop-c-preserved : goal.pick_all-loop-c-preserved
pick_all-loop-c-preserved t c =
    let n = letvars_from c.args.body.now c.loop-c.c-index c.c-item.result c.loop-c-test.true c.c-item.is in (
      omega (arith, n, c.loop-c.invariant.0, c.in_ok-pick_one.ensures.0),
      picks_more c.args.body.now c.loop-c.c-index c.c-item.result _ _ _ _ c.loop-c-test.true c.c-item.is
          c.in_ok-pick_one.ensures
          ∙ c.loop-c.invariant.1,
    )

pub pick_all-returns : goal.pick_all-returns
pick_all-returns t c = (
  omega (arith, letvars_end c.args.body.now c.loop-c.c-index c.loop-c-test.false, c.loop-c.invariant.0),
  sym (picks_end c.args.body.now c.loop-c.c-index c.loop-c.next c.loop-c.out.items c.loop-c-test.false)
      ∙ c.loop-c.invariant.1,
)

pub pick_one-pick_if-requires : goal.pick_one-pick_if-requires
pick_one-pick_if-requires t c =
    let n = letvars_if c.args.c.now c.in-If.guard c.in-If.yes c.in-If.no c.in-If.is in
    let v = ap (λ l. letvars (sequence l)) c.deref.ensures.value in
    (first_of (search (rules, the_lemmas), grind (arith, the_lemmas, common_steps)), omega (arith, n, v, c.requires))

pub pick_one-pick_if-requires-in-If : goal.pick_one-pick_if-requires-in-If
pick_one-pick_if-requires-in-If t c =
    let n = letvars_if c.args.c.now c.in-If.guard c.in-If.yes c.in-If.no c.in-If.is in
    let v = ap (λ l. letvars (sequence l)) c.deref.ensures.value in
    let w = ap (λ l. letvars (sequence l)) c.deref-in-If.ensures.value in (
      first_of (search (rules, the_lemmas), grind (arith, the_lemmas, common_steps)),
      omega
          (arith, n, v, w, c.in_ok-pick_if-in-If.ensures.0, c.requires),
    )

pub pick_one-pick_if-requires-in-While : goal.pick_one-pick_if-requires-in-While
pick_one-pick_if-requires-in-While t c =
    let n = letvars_while c.args.c.now c.in-While.guard c.in-While.body c.in-While.is in
    let v = ap (λ l. letvars (sequence l)) c.deref-in-While.ensures.value in
    (first_of (search (rules, the_lemmas), grind (arith, the_lemmas, common_steps)), omega (arith, n, v, c.requires))

pub pick_one-pick_all-requires : goal.pick_one-pick_all-requires
pick_one-pick_all-requires t c =
    let n = letvars_letvar c.args.c.now c.in-Letvar.value c.in-Letvar.body c.in-Letvar.is in
    let v = ap (λ l. letvars (sequence l)) c.deref-in-Letvar.ensures.value in
    (first_of (search (rules, the_lemmas), grind (arith, the_lemmas, common_steps)), omega (arith, n, v, c.requires))

pub pick_one-returns-in_ok-pick_if-in-If : goal.pick_one-returns-in_ok-pick_if-in-If
pick_one-returns-in_ok-pick_if-in-If t c =
    on_ok_weaker c.pick_if-in-If.result
    (picks_if c.args.c.now c.in-If.guard c.in-If.yes c.in-If.no _ _ _ _ _ _ _ _ _ _ c.in-If.is c.deref.ensures.value
    c.deref-in-If.ensures.value c.can_be_true.ensures c.can_be_false.ensures c.in_ok-pick_if-in-If.ensures)
    c.pick_if-in-If.ensures

pub pick_one-returns-in-While : goal.pick_one-returns-in-While
pick_one-returns-in-While t c =
    on_ok_weaker c.pick_if-in-While.result
    (picks_while c.args.c.now c.in-While.guard c.in-While.body _ _ _ _ _ _ c.in-While.is
    c.deref-in-While.ensures.value
    c.can_be_true-in-While.ensures)
    c.pick_if-in-While.ensures

pub pick_one-returns-in_ok-push-in-Letvar : goal.pick_one-returns-in_ok-push-in-Letvar
pick_one-returns-in_ok-push-in-Letvar t c =
    on_ok_weaker c.pick_all.result
    (picks_letvar c.args.c.now c.in-Letvar.value c.in-Letvar.body _ _ _ _ _ _ c.in-Letvar.is
    c.deref-in-Letvar.ensures.value
    c.in_ok-push-in-Letvar.ensures.items)
    c.pick_all.ensures
