use Rattle.std.proofs.Common.{rules, ◌+◌, refl, sym, ap, ◌∙◌, subst, arith}
use Rattle.std.proofs.lemmas.Grind.{common_steps}
use Rattle.vsi_scope.specs.declared.program.Cmd.{the_lemmas}
use Rattle.vsi_scope.specs.Language.{letvars}
use Rattle.vsi_scope.specs.View.{command, sequence}
use Rattle.vsi_opt.specs.Folding.{append}
use Rattle.vsi_opt.specs.Liveness.{kept_in_loop}
use Rattle.vsi_opt.specs.Loops.{KeptInLoopFits}
use Rattle.vsi_opt.specs.Ranges.{Fits, bits}
use Rattle.vsi_opt.proofs.LoopCases.{of_list, kept_in_loop_fits_one, kept_in_loop_fits_rest, kept_in_loop_fits_if, kept_in_loop_fits_while, kept_in_loop_fits_letvar}
use Rattle.vsi_opt.proofs.Numbers.{letvars_if, letvars_while, letvars_letvar, letvars_from, letvars_end}
use Rattle.vsi_opt.proofs.ReadingCases.{kept_in_loop_more, kept_in_loop_end}
use Rattle.vsi_opt.proofs.KeptInLoopCases.{kept_in_loop_stays, kept_in_loop_goes, kept_in_loop_if, kept_in_loop_while, kept_in_loop_letvar}
use Rattle.vsi_opt.proofs.liveness.+kept_in_loop.Goals as goal

pub kept_in_loop_all-loop-c-init : goal.kept_in_loop_all-loop-c-init
kept_in_loop_all-loop-c-init t c = (
  ap (λ l. append (sequence l) (kept_in_loop c.args.scope (sequence c.args.body.now) (bits c.args.live.now)))
      c.new-out.ensures.items,
  c.requires,
  refl,
)

pub kept_in_loop_all-kept_in_loop_one-requires : goal.kept_in_loop_all-kept_in_loop_one-requires
kept_in_loop_all-kept_in_loop_one-requires t c = (
  first_of (search (rules, the_lemmas), grind (arith, the_lemmas, common_steps)),
  kept_in_loop_fits_one (bits c.args.own.now) c.args.scope c.loop-c.next c.args.body.now c.loop-c.c-index
      c.c-item.result
      c.loop-c-test.true c.c-item.is c.loop-c.invariant.1,
)

pub kept_in_loop_all-loop-c-preserved : goal.kept_in_loop_all-loop-c-preserved
kept_in_loop_all-loop-c-preserved t c =
    let n = letvars_from c.args.body.now c.loop-c.c-index c.c-item.result c.loop-c-test.true c.c-item.is in (
      kept_in_loop_more c.args.scope (bits c.args.live.now) c.args.body.now c.loop-c.out.items
          c.kept_in_loop_one.new.out.items
          c.loop-c.c-index c.c-item.result c.loop-c-test.true c.c-item.is c.in_ok-kept_in_loop_one.ensures.0
          ∙ c.loop-c.invariant.0,
      kept_in_loop_fits_rest (bits c.args.own.now) c.args.scope c.loop-c.next c.kept_in_loop_one.new.next
          c.args.body.now
          c.loop-c.c-index
          c.c-item.result c.loop-c-test.true c.c-item.is c.in_ok-kept_in_loop_one.ensures.1 c.loop-c.invariant.1,
      omega (arith, n, c.in_ok-kept_in_loop_one.ensures.1, c.loop-c.invariant.2),
    )

pub kept_in_loop_all-returns : goal.kept_in_loop_all-returns
kept_in_loop_all-returns t c = (
  sym (kept_in_loop_end c.args.scope (bits c.args.live.now) c.args.body.now c.loop-c.out.items c.loop-c.c-index
      c.loop-c-test.false)
      ∙ c.loop-c.invariant.0,
  omega (arith, letvars_end c.args.body.now c.loop-c.c-index c.loop-c-test.false, c.loop-c.invariant.2),
)

pub kept_in_loop_one-kept_in_loop_all-requires : goal.kept_in_loop_one-kept_in_loop_all-requires
kept_in_loop_one-kept_in_loop_all-requires t c = (
  first_of (search (rules, the_lemmas), grind (arith, the_lemmas, common_steps)),
  of_list (KeptInLoopFits (bits c.args.own.now) c.args.scope c.args.next.now) _ _ c.deref.ensures.value
      (kept_in_loop_fits_if (bits c.args.own.now) c.args.scope c.args.next.now c.args.c.now c.in-If.guard
      c.in-If.yes c.in-If.no
      c.in-If.is c.requires).0,
)

pub kept_in_loop_one-kept_in_loop_all-requires-in-If : goal.kept_in_loop_one-kept_in_loop_all-requires-in-If
kept_in_loop_one-kept_in_loop_all-requires-in-If t c = (
  first_of (search (rules, the_lemmas), grind (arith, the_lemmas, common_steps)),
  of_list (KeptInLoopFits (bits c.args.own.now) c.args.scope c.kept_in_loop_all.new.next) _ _
      c.deref-in-If.ensures.value
      (subst (λ n. KeptInLoopFits (bits c.args.own.now) c.args.scope n (sequence c.in-If.no.items))
      (sym (c.in_ok-yes-in-If.ensures.1 ∙ ap (λ l. c.args.next.now + letvars (sequence l)) c.deref.ensures.value))
      (kept_in_loop_fits_if (bits c.args.own.now) c.args.scope c.args.next.now c.args.c.now c.in-If.guard
      c.in-If.yes c.in-If.no
      c.in-If.is c.requires).1),
)

pub kept_in_loop_one-kept_in_loop_all-requires-in-While : goal.kept_in_loop_one-kept_in_loop_all-requires-in-While
kept_in_loop_one-kept_in_loop_all-requires-in-While t c = (
  first_of (search (rules, the_lemmas), grind (arith, the_lemmas, common_steps)),
  of_list (KeptInLoopFits (bits c.args.own.now) c.args.scope c.args.next.now) _ _ c.deref-in-While.ensures.value
      (kept_in_loop_fits_while (bits c.args.own.now) c.args.scope c.args.next.now c.args.c.now
      c.in-While.guard c.in-While.body
      c.in-While.is c.requires),
)

pub kept_in_loop_one-contains-requires : goal.kept_in_loop_one-contains-requires
kept_in_loop_one-contains-requires t c = (subst (λ x. Fits c.args.scope (command x)) c.in-Assign.is c.requires.0).0

pub kept_in_loop_one-contains-requires-in-Letvar : goal.kept_in_loop_one-contains-requires-in-Letvar
kept_in_loop_one-contains-requires-in-Letvar t c =
    (kept_in_loop_fits_letvar (bits c.args.own.now) c.args.scope c.args.next.now c.args.c.now c.in-Letvar.value
    c.in-Letvar.body
    c.in-Letvar.is c.requires).1

pub kept_in_loop_one-set-requires : goal.kept_in_loop_one-set-requires
kept_in_loop_one-set-requires t c =
    (kept_in_loop_fits_letvar (bits c.args.own.now) c.args.scope c.args.next.now c.args.c.now c.in-Letvar.value
    c.in-Letvar.body
    c.in-Letvar.is c.requires).0

pub kept_in_loop_one-overflow_add-scope : goal.kept_in_loop_one-overflow_add-scope
kept_in_loop_one-overflow_add-scope t c =
    omega (
      arith,
      (kept_in_loop_fits_letvar (bits c.args.own.now) c.args.scope c.args.next.now c.args.c.now c.in-Letvar.value
          c.in-Letvar.body c.in-Letvar.is c.requires).0,
    )

pub kept_in_loop_one-kept_in_loop_all-requires-in-Letvar : goal.kept_in_loop_one-kept_in_loop_all-requires-in-Letvar
kept_in_loop_one-kept_in_loop_all-requires-in-Letvar t c = (
  first_of (search (rules, the_lemmas), grind (arith, the_lemmas, common_steps)),
  of_list (KeptInLoopFits (bits c.args.own.now) (c.args.scope + 1) (c.args.next.now + 1)) _ _
      c.deref-in-Letvar.ensures.value
      (kept_in_loop_fits_letvar (bits c.args.own.now) c.args.scope c.args.next.now c.args.c.now c.in-Letvar.value
      c.in-Letvar.body
      c.in-Letvar.is c.requires).3,
)

pub kept_in_loop_one-returns-in_ok-push-in-Assign : goal.kept_in_loop_one-returns-in_ok-push-in-Assign
kept_in_loop_one-returns-in_ok-push-in-Assign t c = (
  kept_in_loop_stays c.args.scope (bits c.args.live.now) c.args.c.now
      c.in_ok-copy_assignment-in-Assign.field-0 c.in-Assign.loc
      c.in-Assign.span c.in-Assign.value _ _ c.contains.result c.in-Assign.is
      c.in_ok-copy_assignment-in-Assign.ensures c.contains.ensures c.if-contains.true
      c.in_ok-push-in-Assign.ensures.items,
  omega (arith, ap (λ x. letvars (command x)) c.in-Assign.is),
)

pub kept_in_loop_one-returns-else-contains : goal.kept_in_loop_one-returns-else-contains
kept_in_loop_one-returns-else-contains t c = (
  kept_in_loop_goes c.args.scope (bits c.args.live.now) c.args.c.now c.in-Assign.loc c.in-Assign.span c.in-Assign.value
      c.args.out.now.items c.contains.result c.in-Assign.is c.contains.ensures c.if-contains.false,
  omega (arith, ap (λ x. letvars (command x)) c.in-Assign.is),
)

pub kept_in_loop_one-returns-in_ok-push-in-If : goal.kept_in_loop_one-returns-in_ok-push-in-If
kept_in_loop_one-returns-in_ok-push-in-If t c =
    let n = letvars_if c.args.c.now c.in-If.guard c.in-If.yes c.in-If.no c.in-If.is in
    let v = ap (λ l. letvars (sequence l)) c.deref.ensures.value in
    let w = ap (λ l. letvars (sequence l)) c.deref-in-If.ensures.value in (
      kept_in_loop_if c.args.scope (bits c.args.live.now) c.args.c.now c.in-If.guard c.in_ok-guard-in-If.guard
          c.in-If.yes
          c.in-If.no c.in_ok-yes-in-If.yes c.in_ok-no-in-If.no _ _ _ _ c.in-If.is c.deref.ensures.value
          c.deref-in-If.ensures.value c.in_ok-guard-in-If.ensures c.in_ok-yes-in-If.ensures.0
          c.in_ok-no-in-If.ensures.0
          c.in_ok-push-in-If.ensures.items,
      omega (arith, n, v, w, c.in_ok-yes-in-If.ensures.1, c.in_ok-no-in-If.ensures.1),
    )

pub kept_in_loop_one-returns-in_ok-push-in-While : goal.kept_in_loop_one-returns-in_ok-push-in-While
kept_in_loop_one-returns-in_ok-push-in-While t c =
    let n = letvars_while c.args.c.now c.in-While.guard c.in-While.body c.in-While.is in
    let v = ap (λ l. letvars (sequence l)) c.deref-in-While.ensures.value in (
      kept_in_loop_while c.args.scope (bits c.args.live.now) c.args.c.now c.in-While.guard c.in_ok-guard-in-While.guard
          c.in-While.body c.in_ok-body-in-While.body _ _ _ c.in-While.is c.deref-in-While.ensures.value
          c.in_ok-guard-in-While.ensures c.in_ok-body-in-While.ensures.0 c.in_ok-push-in-While.ensures.items,
      omega (arith, n, v, c.in_ok-body-in-While.ensures.1),
    )

pub kept_in_loop_one-returns-in_ok-push-in-Letvar : goal.kept_in_loop_one-returns-in_ok-push-in-Letvar
kept_in_loop_one-returns-in_ok-push-in-Letvar t c =
    let n = letvars_letvar c.args.c.now c.in-Letvar.value c.in-Letvar.body c.in-Letvar.is in
    let v = ap (λ l. letvars (sequence l)) c.deref-in-Letvar.ensures.value in
    let f = kept_in_loop_fits_letvar (bits c.args.own.now) c.args.scope c.args.next.now c.args.c.now c.in-Letvar.value
    c.in-Letvar.body c.in-Letvar.is c.requires in (
      kept_in_loop_letvar c.args.scope (bits c.args.live.now) c.args.c.now c.in-Letvar.value
          c.in_ok-value-in-Letvar.value
          c.in-Letvar.body c.in_ok-body-in-Letvar.body _ _ _ c.contains-in-Letvar.result
          (bits c.set.new.self) c.in-Letvar.is
          c.deref-in-Letvar.ensures.value c.in_ok-value-in-Letvar.ensures (c.contains-in-Letvar.ensures
          ∙ f.2) c.set.ensures
          c.in_ok-body-in-Letvar.ensures.0 c.in_ok-push-in-Letvar.ensures.items,
      omega (arith, n, v, c.in_ok-body-in-Letvar.ensures.1),
    )
