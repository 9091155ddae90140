use Rattle.std.proofs.Common.{rules, ap, arith}
use Rattle.std.proofs.lemmas.Grind.{common_steps}
use Rattle.vsi_scope.specs.declared.program.Cmd.{the_lemmas}
use Rattle.vsi_scope.specs.Language.{letvars}
use Rattle.vsi_scope.specs.View.{sequence}
use Rattle.vsi_opt.proofs.Numbers.{letvars_if, letvars_while, letvars_letvar, letvars_from, letvars_end}
use Rattle.vsi_opt.proofs.optimiser.+passing.Goals as goal

pub pass_all-pass_one-requires : goal.pass_all-pass_one-requires
pass_all-pass_one-requires t c =
    let n = letvars_from c.args.body.now c.loop-c.c-index c.c-item.result c.loop-c-test.true c.c-item.is in (
      first_of (search (rules, the_lemmas), grind (arith, the_lemmas, common_steps)),
      omega
          (arith, n, c.loop-c.invariant, c.requires),
    )

pub pass_all-loop-c-preserved : goal.pass_all-loop-c-preserved
pass_all-loop-c-preserved t c =
    let n = letvars_from c.args.body.now c.loop-c.c-index c.c-item.result c.loop-c-test.true c.c-item.is in
    omega (arith, n, c.loop-c.invariant, c.pass_one.ensures)

pub pass_all-returns : goal.pass_all-returns
pass_all-returns t c =
    omega (arith, letvars_end c.args.body.now c.loop-c.c-index c.loop-c-test.false, c.loop-c.invariant)

pub pass_one-pass_all-requires : goal.pass_one-pass_all-requires
pass_one-pass_all-requires t c =
    let n = letvars_if c.args.c.now c.in-If.guard c.in-If.yes c.in-If.no c.in-If.is in
    let v = ap (λ l. letvars (sequence l)) c.deref.ensures.value in
    (first_of (search (rules, the_lemmas), grind (arith, the_lemmas, common_steps)), omega (arith, n, v, c.requires))

pub pass_one-pass_all-requires-in-If : goal.pass_one-pass_all-requires-in-If
pass_one-pass_all-requires-in-If t c =
    let n = letvars_if c.args.c.now c.in-If.guard c.in-If.yes c.in-If.no c.in-If.is in
    let v = ap (λ l. letvars (sequence l)) c.deref.ensures.value in
    let w = ap (λ l. letvars (sequence l)) c.deref-in-If.ensures.value in (
      first_of (search (rules, the_lemmas), grind (arith, the_lemmas, common_steps)),
      omega
          (arith, n, v, w, c.pass_all.ensures, c.requires),
    )

pub pass_one-pass_all-requires-in-While : goal.pass_one-pass_all-requires-in-While
pass_one-pass_all-requires-in-While t c =
    let n = letvars_while c.args.c.now c.in-While.guard c.in-While.body c.in-While.is in
    let v = ap (λ l. letvars (sequence l)) c.deref-in-While.ensures.value in
    (first_of (search (rules, the_lemmas), grind (arith, the_lemmas, common_steps)), omega (arith, n, v, c.requires))

pub pass_one-pass_all-requires-in-Letvar : goal.pass_one-pass_all-requires-in-Letvar
pass_one-pass_all-requires-in-Letvar t c =
    let n = letvars_letvar c.args.c.now c.in-Letvar.value c.in-Letvar.body c.in-Letvar.is in
    let v = ap (λ l. letvars (sequence l)) c.deref-in-Letvar.ensures.value in
    (first_of (search (rules, the_lemmas), grind (arith, the_lemmas, common_steps)), omega (arith, n, v, c.requires))

pub pass_one-returns-in-If : goal.pass_one-returns-in-If
pass_one-returns-in-If t c =
    let n = letvars_if c.args.c.now c.in-If.guard c.in-If.yes c.in-If.no c.in-If.is in
    let v = ap (λ l. letvars (sequence l)) c.deref.ensures.value in
    let w = ap (λ l. letvars (sequence l)) c.deref-in-If.ensures.value in
    omega (arith, n, v, w, c.pass_all.ensures, c.pass_all-in-If.ensures)

pub pass_one-returns-in-While : goal.pass_one-returns-in-While
pass_one-returns-in-While t c =
    let n = letvars_while c.args.c.now c.in-While.guard c.in-While.body c.in-While.is in
    let v = ap (λ l. letvars (sequence l)) c.deref-in-While.ensures.value in
    omega (arith, n, v, c.pass_all-in-While.ensures)

pub pass_one-returns-in-Letvar : goal.pass_one-returns-in-Letvar
pass_one-returns-in-Letvar t c =
    let n = letvars_letvar c.args.c.now c.in-Letvar.value c.in-Letvar.body c.in-Letvar.is in
    let v = ap (λ l. letvars (sequence l)) c.deref-in-Letvar.ensures.value in
    omega (arith, n, v, c.pass_all-in-Letvar.ensures)
