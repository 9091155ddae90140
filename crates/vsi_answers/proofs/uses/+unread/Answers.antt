use Rattle.std.proofs.Common.{rules, refl, sym, ap, ◌∙◌, arith}
use Rattle.std.proofs.lemmas.Grind.{common_steps}
use Rattle.std.proofs.lemmas.Result.{on_ok_weaker}
use Rattle.vsi_scope.specs.declared.program.Cmd.{the_lemmas}
use Rattle.vsi_scope.specs.Language.{letvars}
use Rattle.vsi_scope.specs.View.{command, sequence}
use Rattle.vsi_scope.proofs.Views.{command_While}
use Rattle.vsi_answers.specs.Warned.{unread}
use Rattle.vsi_opt.proofs.Numbers.{letvars_if, letvars_letvar, letvars_while}
use Rattle.vsi_answers.proofs.Cases.{letvars_in, passed_letvar}
use Rattle.vsi_answers.proofs.Flags.{passed_all, passed_if, passed_more, passed_same}
use Rattle.vsi_answers.proofs.uses.+unread.Goals as goal

pub put_all-loop-c-preserved : goal.put_all-loop-c-preserved
put_all-loop-c-preserved t c =
    passed_more (unread c.args.scope) (λ a b. refl) c.args.body.now c.loop-c.c-index c.c-item.result _ _
    c.loop-c-test.true c.c-item.is c.in_ok-put_one.ensures
    ∙ c.loop-c.invariant

pub put_all-returns : goal.put_all-returns
put_all-returns t c =
    sym (passed_all (unread c.args.scope) refl c.args.body.now c.loop-c.c-index c.loop-c.found.items
    c.loop-c-test.false)
    ∙ c.loop-c.invariant

pub put_all-put_one-requires : goal.put_all-put_one-requires
put_all-put_one-requires t c =
    let n = letvars_in c.args.body.now c.loop-c.c-index c.c-item.result c.loop-c-test.true c.c-item.is in
    (first_of (search (rules, the_lemmas), grind (arith, the_lemmas, common_steps)), omega (arith, n, c.requires))

pub put_one-put_all-requires : goal.put_one-put_all-requires
put_one-put_all-requires t c =
    let n = letvars_if c.args.c.now c.in-If.guard c.in-If.yes c.in-If.no c.in-If.is in
    let v = ap (λ l. letvars (sequence l)) c.deref.ensures.value in
    (first_of (search (rules, the_lemmas), grind (arith, the_lemmas, common_steps)), omega (arith, n, v, c.requires))

pub put_one-put_all-requires-in-If : goal.put_one-put_all-requires-in-If
put_one-put_all-requires-in-If t c =
    let n = letvars_if c.args.c.now c.in-If.guard c.in-If.yes c.in-If.no c.in-If.is in
    let v = ap (λ l. letvars (sequence l)) c.deref-in-If.ensures.value in
    (first_of (search (rules, the_lemmas), grind (arith, the_lemmas, common_steps)), omega (arith, n, v, c.requires))

pub put_one-put_all-requires-in-While : goal.put_one-put_all-requires-in-While
put_one-put_all-requires-in-While t c =
    let n = letvars_while c.args.c.now c.in-While.guard c.in-While.body c.in-While.is in
    let v = ap (λ l. letvars (sequence l)) c.deref-in-While.ensures.value in
    (first_of (search (rules, the_lemmas), grind (arith, the_lemmas, common_steps)), omega (arith, n, v, c.requires))

pub put_one-put_all-requires-in-Letvar : goal.put_one-put_all-requires-in-Letvar
put_one-put_all-requires-in-Letvar t c =
    let n = letvars_letvar c.args.c.now c.in-Letvar.value c.in-Letvar.body c.in-Letvar.is in
    let v = ap (λ l. letvars (sequence l)) c.deref-in-Letvar-2.ensures.value in
    (first_of (search (rules, the_lemmas), grind (arith, the_lemmas, common_steps)), omega (arith, n, v, c.requires))

pub put_one-returns-in_ok-put_all-in-If : goal.put_one-returns-in_ok-put_all-in-If
put_one-returns-in_ok-put_all-in-If t c =
    on_ok_weaker c.put_all-in-If.result
    (passed_if (unread c.args.scope) (λ e a b. refl) c.args.c.now c.in-If.guard c.in-If.yes c.in-If.no _ _ _ _ _
    c.in-If.is c.deref.ensures.value c.deref-in-If.ensures.value c.in_ok-put_all-in-If.ensures)
    c.put_all-in-If.ensures

pub put_one-returns-in-While : goal.put_one-returns-in-While
put_one-returns-in-While t c =
    on_ok_weaker c.put_all-in-While.result
    (passed_same (unread c.args.scope) c.args.c.now _ c.in-While.body.items _ _
    (ap (λ x. unread c.args.scope (command x)) c.in-While.is
    ∙ ap (unread c.args.scope) (command_While c.in-While.guard c.in-While.body))
    c.deref-in-While.ensures.value)
    c.put_all-in-While.ensures

pub put_one-returns-in_ok-push-in-Letvar : goal.put_one-returns-in_ok-push-in-Letvar
put_one-returns-in_ok-push-in-Letvar t c =
    on_ok_weaker c.put_all-in-Letvar.result
    (passed_letvar c.args.scope c.args.c.now c.in-Letvar.value c.in-Letvar.body _ _ _ _ _ _ c.in-Letvar.is
    c.deref-in-Letvar.ensures.value c.deref-in-Letvar-2.ensures.value c.are_using.ensures
    c.in_ok-push-in-Letvar.ensures.items)
    c.put_all-in-Letvar.ensures
