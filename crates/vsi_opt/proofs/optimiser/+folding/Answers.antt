use Rattle.std.proofs.Common.{◌≡◌, sym, ap, ◌∙◌, subst, Some, true, false, OnOk, None}
use Rattle.vsi_scope.specs.Language.{Assign, While}
use Rattle.vsi_scope.specs.View.{expression, command, sequence}
use Rattle.vsi_opt.specs.Folding.{one, append, fold}
use Rattle.vsi_opt.proofs.FoldingCases.{fold_if_by, fold_while_by, fold_letvar_by, one_if, one_letvar, known}
use Rattle.vsi_opt.proofs.Sequences.{pushed, fold_more, fold_end, append_nothing}
use Rattle.vsi_opt.proofs.optimiser.+folding.Goals as goal

pub fold_all-loop-c-preserved : goal.fold_all-loop-c-preserved
fold_all-loop-c-preserved t c =
    fold_more c.args.body.now c.loop-c.out.items c.fold_one.new.out.items c.loop-c.c-index c.c-item.result
    c.loop-c-test.true c.c-item.is c.in_ok-fold_one.ensures
    ∙ c.loop-c.invariant

pub fold_all-returns : goal.fold_all-returns
fold_all-returns t c = sym (fold_end c.args.body.now c.loop-c.out.items c.loop-c.c-index c.loop-c-test.false)
    ∙ c.loop-c.invariant

pub fold_one-returns-in-Assign : goal.fold_one-returns-in-Assign
fold_one-returns-in-Assign t c =
    pushed _ _ _ _ c.in_ok-push-in-Assign.ensures.items
    (ap (λ x. one (Assign c.in-Assign.loc c.in-Assign.span x)) c.in_ok-value-in-Assign.ensures
    ∙ sym (ap (λ x. fold (command x)) c.in-Assign.is))

pub fold_one-returns-in-Some-true : goal.fold_one-returns-in-Some-true
fold_one-returns-in-Some-true t c =
    let e = fold_if_by c.args.c.now c.in-If.guard c.in_ok-guard-in-If.guard c.in-If.yes c.in-If.no (Some true)
    c.in-If.is c.in_ok-guard-in-If.ensures
    (known c.truth.result _ c.in-Some-true.field-0 true c.truth.ensures c.in-Some-true.is
    c.in-Some-true.field-0-test) in
    subst (λ d. OnOk c.fold_all.result (sequence c.fold_all.new.out.items ≡ append (sequence c.args.out.now.items)
    d)) (ap (λ l. fold (sequence l)) c.deref.ensures.value ∙ sym e) c.fold_all.ensures

pub fold_one-returns-in-Some-false : goal.fold_one-returns-in-Some-false
fold_one-returns-in-Some-false t c =
    let e = fold_if_by c.args.c.now c.in-If.guard c.in_ok-guard-in-If.guard c.in-If.yes c.in-If.no (Some false)
    c.in-If.is c.in_ok-guard-in-If.ensures
    (known c.truth.result _ c.in-Some-false.field-0 false c.truth.ensures c.in-Some-false.is
    c.in-Some-false.field-0-test) in
    subst (λ d. OnOk c.fold_all-in-Some-false.result
    (sequence c.fold_all-in-Some-false.new.out.items ≡ append (sequence c.args.out.now.items) d))
    (ap (λ l. fold (sequence l)) c.deref-in-Some-false.ensures.value ∙ sym e) c.fold_all-in-Some-false.ensures

pub fold_one-returns-in-If : goal.fold_one-returns-in-If
fold_one-returns-in-If t c =
    let e = fold_if_by c.args.c.now c.in-If.guard c.in_ok-guard-in-If.guard c.in-If.yes c.in-If.no None c.in-If.is
    c.in_ok-guard-in-If.ensures (sym c.in-None.is ∙ c.truth.ensures) in
    pushed _ _ _ _ c.in_ok-push-in-None.ensures.items
    (one_if c.in_ok-guard-in-If.guard c.in_ok-yes-in-None.yes c.in_ok-no-in-None.no _ _
    (c.in_ok-yes-in-None.ensures ∙ ap (λ l. fold (sequence l)) c.deref-in-None.ensures.value)
    (c.in_ok-no-in-None.ensures ∙ ap (λ l. fold (sequence l)) c.deref-in-None-2.ensures.value)
    ∙ sym e)

pub fold_one-returns-in-Some-true-truth : goal.fold_one-returns-in-Some-true-truth
fold_one-returns-in-Some-true-truth t c =
    let e = fold_while_by c.args.c.now c.in-While.guard c.in_ok-guard-in-While.guard c.in-While.body (Some true)
    c.in-While.is c.in_ok-guard-in-While.ensures
    (known c.truth-in-While.result _ c.in-Some-true-truth.field-0 true c.truth-in-While.ensures
    c.in-Some-true-truth.is c.in-Some-true-truth.field-0-test) in
    let loop_is = ap (λ x. one (While (expression c.in_ok-guard-in-While.guard) x))
    (c.in_ok-fold_list-in-Some-true-truth.ensures
    ∙ ap (λ l. fold (sequence l)) c.deref-in-Some-true-truth.ensures.value) in
    subst (λ d. OnOk c.put_loop.result
    (sequence c.put_loop.new.out.items ≡ append (sequence c.args.out.now.items) d)) (loop_is
    ∙ sym e) c.put_loop.ensures

pub fold_one-returns-in-Some-false-truth : goal.fold_one-returns-in-Some-false-truth
fold_one-returns-in-Some-false-truth t c =
    let e = fold_while_by c.args.c.now c.in-While.guard c.in_ok-guard-in-While.guard c.in-While.body (Some false)
    c.in-While.is c.in_ok-guard-in-While.ensures
    (known c.truth-in-While.result _ c.in-Some-false-truth.field-0 false c.truth-in-While.ensures
    c.in-Some-false-truth.is c.in-Some-false-truth.field-0-test) in
    sym (append_nothing c.args.out.now.items) ∙ ap (append (sequence c.args.out.now.items)) (sym e)

pub fold_one-returns-in-While : goal.fold_one-returns-in-While
fold_one-returns-in-While t c =
    let e = fold_while_by c.args.c.now c.in-While.guard c.in_ok-guard-in-While.guard c.in-While.body None
    c.in-While.is c.in_ok-guard-in-While.ensures (sym c.in-None-truth.is ∙ c.truth-in-While.ensures) in
    let loop_is = ap (λ x. one (While (expression c.in_ok-guard-in-While.guard) x))
    (c.in_ok-fold_list-in-None-truth.ensures ∙ ap (λ l. fold (sequence l)) c.deref-in-None-truth.ensures.value) in
    subst (λ d. OnOk c.put_loop-in-None-truth.result
    (sequence c.put_loop-in-None-truth.new.out.items ≡ append (sequence c.args.out.now.items) d)) (loop_is
    ∙ sym e) c.put_loop-in-None-truth.ensures

pub fold_one-returns : goal.fold_one-returns
fold_one-returns t c =
    let e = fold_letvar_by c.args.c.now c.in-Letvar.value c.in_ok-value-in-Letvar.value c.in-Letvar.body
    c.in-Letvar.is c.in_ok-value-in-Letvar.ensures in
    pushed _ _ _ _ c.in_ok-push-in-Letvar.ensures.items
    (one_letvar c.in_ok-value-in-Letvar.value c.in_ok-body-in-Letvar.body _ (c.in_ok-body-in-Letvar.ensures
    ∙ ap (λ l. fold (sequence l)) c.deref-in-Letvar.ensures.value) ∙ sym e)
