use Rattle.std.proofs.Common.{sym, ap, ◌∙◌}
use Rattle.vsi_scope.specs.View.{sequence}
use Rattle.vsi_opt.specs.Folding.{append}
use Rattle.vsi_steady.specs.Looped.{looped}
use Rattle.vsi_steady.proofs.Watching.{looped_more, looped_end, looped_if, looped_while, looped_letvar}
use Rattle.vsi_steady.proofs.source.+watching.Goals as goal

pub watch_all-loop-c-preserved : goal.watch_all-loop-c-preserved
watch_all-loop-c-preserved t c =
    looped_more c.args.body.now c.loop-c.out.items c.push.new.self.items c.loop-c.c-index c.c-item.result
    c.in_ok-watch_one.field-0 c.loop-c-test.true c.c-item.is c.in_ok-push.ensures.items c.in_ok-watch_one.ensures
    ∙ c.loop-c.invariant

pub watch_all-returns : goal.watch_all-returns
watch_all-returns t c =
    sym (looped_end c.args.body.now c.loop-c.out.items c.loop-c.c-index c.loop-c-test.false) ∙ c.loop-c.invariant

pub watch_one-returns-in_ok-watch_all-in-If : goal.watch_one-returns-in_ok-watch_all-in-If
watch_one-returns-in_ok-watch_all-in-If t c =
    looped_if c.args.c.now c.in-If.guard c.in_ok-guard-in-If.guard c.in-If.yes c.in-If.no c.watch_all.new.out
    c.in-If.is c.in_ok-guard-in-If.ensures
    (c.in_ok-watch_all-in-If.ensures
    ∙ ap (λ x. append x (looped (sequence c.deref-in-If.result.now))) c.in_ok-both-in-If.ensures
    ∙ ap (λ l. append (looped (sequence l)) (looped (sequence c.deref-in-If.result.now))) c.deref.ensures.value
    ∙ ap (λ l. append (looped (sequence c.in-If.yes.items)) (looped (sequence l))) c.deref-in-If.ensures.value)

pub watch_one-returns-in_ok-body-in-While : goal.watch_one-returns-in_ok-body-in-While
watch_one-returns-in_ok-body-in-While t c =
    looped_while c.args.c.now c.in-While.guard c.in_ok-guard-in-While.guard c.in-While.body
    c.in_ok-body-in-While.body c.in-While.is c.in_ok-guard-in-While.ensures
    (c.in_ok-body-in-While.ensures ∙ ap (λ l. looped (sequence l)) c.deref-in-While.ensures.value)

pub watch_one-returns-in_ok-body-in-Letvar : goal.watch_one-returns-in_ok-body-in-Letvar
watch_one-returns-in_ok-body-in-Letvar t c =
    looped_letvar c.args.c.now c.in-Letvar.value c.in_ok-value-in-Letvar.value c.in-Letvar.body
    c.in_ok-body-in-Letvar.body c.in-Letvar.is c.in_ok-value-in-Letvar.ensures
    (c.in_ok-body-in-Letvar.ensures ∙ ap (λ l. looped (sequence l)) c.deref-in-Letvar.ensures.value)
