use Rattle.std.proofs.Common.{rules, refl, ap, ◌∙◌, sym, arith}
use Rattle.std.specs.Prelude.{◌||◌}
use Rattle.std.proofs.lemmas.List.{take_all}
use Rattle.vsi_answers.specs.Warned.{used}
use Rattle.vsi_scope.specs.View.{command, sequence}
use Rattle.vsi_scope.proofs.Views.{command_If, command_While, command_Letvar}
use Rattle.vsi_answers.proofs.Finds.{found_in, found_more}
use Rattle.vsi_answers.proofs.uses.+using.Goals as goal

pub are_using-returns-then-is_using : goal.are_using-returns-then-is_using
are_using-returns-then-is_using t c =
    sym (found_in (λ k. used c.args.counts k c.args.location) (λ a b. refl) c.args.body.now
    c.loop-c.c-index c.c-item.result c.loop-c-test.true c.c-item.is (sym c.is_using.ensures ∙ c.if-is_using.true))

pub are_using-loop-c-preserved : goal.are_using-loop-c-preserved
are_using-loop-c-preserved t c =
    found_more (λ k. used c.args.counts k c.args.location) refl (λ a b. refl) c.args.body.now
    c.loop-c.c-index c.c-item.result c.loop-c-test.true c.c-item.is
    ∙ ap (λ b. b || used c.args.counts (command c.c-item.result) c.args.location) c.loop-c.invariant
    ∙ sym c.is_using.ensures ∙ c.if-is_using.false

pub are_using-returns : goal.are_using-returns
are_using-returns t c =
    sym (ap (λ l. used c.args.counts (sequence l) c.args.location)
    (sym (take_all c.loop-c.c-index c.args.body.now (omega arith)))
    ∙ c.loop-c.invariant)

pub is_using-returns-in-If : goal.is_using-returns-in-If
is_using-returns-in-If t c =
    let e = ap (λ x. used c.args.counts (command x) c.args.location) c.in-If.is
    ∙ ap (λ k. used c.args.counts k c.args.location) (command_If c.in-If.guard c.in-If.yes c.in-If.no) in
    search rules

pub is_using-returns-in-While : goal.is_using-returns-in-While
is_using-returns-in-While t c =
    let e = ap (λ x. used c.args.counts (command x) c.args.location) c.in-While.is
    ∙ ap (λ k. used c.args.counts k c.args.location) (command_While c.in-While.guard c.in-While.body) in
    search rules

pub is_using-returns-in-Letvar : goal.is_using-returns-in-Letvar
is_using-returns-in-Letvar t c =
    let e = ap (λ x. used c.args.counts (command x) c.args.location) c.in-Letvar.is
    ∙ ap (λ k. used c.args.counts k c.args.location) (command_Letvar c.in-Letvar.value c.in-Letvar.body) in
    search rules
