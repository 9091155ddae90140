use Rattle.std.proofs.Common.{rules, ap, ◌∙◌}
use Rattle.vsi_code.specs.Needs.{height}
use Rattle.vsi_scope.specs.View.{command}
use Rattle.vsi_scope.proofs.Views.{command_If, command_While, command_Letvar}
use Rattle.vsi_code.proofs.Heights.{height_more}
use Rattle.vsi_code.proofs.generator.+heights.Goals as goal

pub height_of_one-returns-in-If : goal.height_of_one-returns-in-If
height_of_one-returns-in-If t c =
    let e = ap (λ x. height (command x)) c.in-If.is
    ∙ ap height (command_If c.in-If.guard c.in-If.yes c.in-If.no) in
    search rules

pub height_of_one-returns-in-While : goal.height_of_one-returns-in-While
height_of_one-returns-in-While t c =
    let e = ap (λ x. height (command x)) c.in-While.is
    ∙ ap height (command_While c.in-While.guard c.in-While.body) in
    search rules

pub height_of_one-returns-in-Letvar : goal.height_of_one-returns-in-Letvar
height_of_one-returns-in-Letvar t c =
    let e = ap (λ x. height (command x)) c.in-Letvar.is
    ∙ ap height (command_Letvar c.in-Letvar.value c.in-Letvar.body) in
    search rules

pub height-loop-c-preserved : goal.height-loop-c-preserved
height-loop-c-preserved t c =
    let e = height_more c.args.body.now c.loop-c.c-index c.c-item.result c.loop-c-test.true c.c-item.is in
    search rules
