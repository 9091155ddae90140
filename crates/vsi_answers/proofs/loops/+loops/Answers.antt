use Rattle.std.proofs.Common.{sym, ap, subst, arith}
use Rattle.std.proofs.lemmas.Result.{on_ok_weaker}
use Rattle.vsi_scope.specs.View.{command, expression}
use Rattle.vsi_answers.specs.Stamps.{IsWalked}
use Rattle.vsi_answers.proofs.Marks.{walked_assignment}
use Rattle.vsi_answers.proofs.Walks.{walked_if, walked_letvar, walked_more, walked_while}
use Rattle.vsi_answers.proofs.loops.+loops.Goals as goal

pub put_all-loop-c-preserved : goal.put_all-loop-c-preserved
put_all-loop-c-preserved t c =
    walked_more c.args.body.now c.loop-c.c-index c.c-item.result _ _ _ _ _ _ c.loop-c-test.true c.c-item.is
    c.loop-c.invariant c.in_ok-put_one.ensures

pub put_one-returns-in-Assign : goal.put_one-returns-in-Assign
put_one-returns-in-Assign t c =
    let xs = c.args.found.now.items in
    on_ok_weaker c.put_stamp.result
    (λ e. subst (λ x. IsWalked x xs c.args.stamps.now.items xs c.put_stamp.new.stamps.items)
    (sym (ap command c.in-Assign.is))
    (walked_assignment c.in-Assign.loc c.in-Assign.span (expression c.in-Assign.value) c.len.result xs _ _
    (omega (arith, c.len.ensures, c.args.found.now.ok.0)) e))
    c.put_stamp.ensures

pub put_one-returns-in_ok-put_all-in-If : goal.put_one-returns-in_ok-put_all-in-If
put_one-returns-in_ok-put_all-in-If t c =
    on_ok_weaker c.put_all-in-If.result
    (walked_if c.args.c.now c.in-If.guard c.in-If.yes c.in-If.no _ _ _ _ _ _ _ _ c.in-If.is c.deref.ensures.value
    c.deref-in-If.ensures.value c.in_ok-put_all-in-If.ensures)
    c.put_all-in-If.ensures

pub put_one-returns-in_ok-put_all-in-While : goal.put_one-returns-in_ok-put_all-in-While
put_one-returns-in_ok-put_all-in-While t c =
    walked_while c.args.c.now c.in-While.guard c.in-While.body _ c.len-begun.result c.args.found.now.items _ _ _ _ _ _
    c.in-While.is c.deref-in-While.ensures.value (omega (arith, c.len-begun.ensures, c.args.found.now.ok.0))
    c.in_ok-push-in-While.ensures.items c.in_ok-put_all-in-While.ensures c.deref-in-While-2.ensures.value
    c.reads_above.ensures

pub put_one-returns-in-Letvar : goal.put_one-returns-in-Letvar
put_one-returns-in-Letvar t c =
    on_ok_weaker c.put_all-in-Letvar.result
    (walked_letvar c.args.c.now c.in-Letvar.value c.in-Letvar.body _ _ _ _ _ c.in-Letvar.is
    c.deref-in-Letvar.ensures.value)
    c.put_all-in-Letvar.ensures
