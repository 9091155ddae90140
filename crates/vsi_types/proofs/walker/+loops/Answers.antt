use Rattle.std.proofs.Common.{rules, ap, ◌∙◌, sym, arith}
use Rattle.std.specs.Prelude.{◌||◌}
use Rattle.std.proofs.lemmas.List.{take_all}
use Rattle.vsi_scope.specs.Language.{has_loop}
use Rattle.vsi_scope.specs.View.{command, sequence}
use Rattle.vsi_scope.proofs.Views.{command_If, command_Letvar}
use Rattle.vsi_types.proofs.Looping.{loop_more, loop_found}
use Rattle.vsi_types.proofs.walker.+loops.Goals as goal

pub loops_in-returns-in-Letvar : goal.loops_in-returns-in-Letvar
loops_in-returns-in-Letvar t c =
    let e = ap (λ x. has_loop (command x)) c.in-Letvar.is
    ∙ ap has_loop (command_Letvar c.in-Letvar.value c.in-Letvar.body) in
    search rules

pub loops-returns-then-loops_in : goal.loops-returns-then-loops_in
loops-returns-then-loops_in t c =
    sym (loop_found c.args.body.now c.loop-c.c-index c.c-item.result c.loop-c-test.true c.c-item.is
    (sym c.loops_in.ensures ∙ c.if-loops_in.true))

pub loops-loop-c-preserved : goal.loops-loop-c-preserved
loops-loop-c-preserved t c =
    loop_more c.args.body.now c.loop-c.c-index c.c-item.result c.loop-c-test.true c.c-item.is
    ∙ ap (λ b. b || has_loop (command c.c-item.result)) c.loop-c.invariant
    ∙ sym c.loops_in.ensures ∙ c.if-loops_in.false

pub loops-returns : goal.loops-returns
loops-returns t c =
    sym (ap (λ l. has_loop (sequence l)) (sym (take_all c.loop-c.c-index c.args.body.now (omega arith)))
    ∙ c.loop-c.invariant)

pub loops_in-returns-then-loops : goal.loops_in-returns-then-loops
loops_in-returns-then-loops t c =
    let e = ap (λ x. has_loop (command x)) c.in-If.is
    ∙ ap has_loop (command_If c.in-If.guard c.in-If.yes c.in-If.no) in
    let first = ap (λ l. has_loop (sequence l)) (sym c.deref.ensures.value) ∙ sym c.loops.ensures ∙ c.if-loops.true in
    c.if-loops.true ∙ sym (e ∙ ap (λ b. b || has_loop (sequence c.in-If.no.items)) first)

pub loops_in-returns-else-loops : goal.loops_in-returns-else-loops
loops_in-returns-else-loops t c =
    let e = ap (λ x. has_loop (command x)) c.in-If.is
    ∙ ap has_loop (command_If c.in-If.guard c.in-If.yes c.in-If.no) in
    let first = ap (λ l. has_loop (sequence l)) (sym c.deref.ensures.value) ∙ sym c.loops.ensures
    ∙ c.if-loops.false in
    let second = c.loops-else-loops.ensures ∙ ap (λ l. has_loop (sequence l)) c.deref-else-loops.ensures.value in
    second ∙ sym (e ∙ ap (λ b. b || has_loop (sequence c.in-If.no.items)) first)
