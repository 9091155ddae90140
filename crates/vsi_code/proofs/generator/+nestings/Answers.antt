use Rattle.std.proofs.Common.{rules, ap, ◌∙◌}
use Rattle.vsi_scope.specs.Language.{nesting}
use Rattle.vsi_scope.specs.View.{command}
use Rattle.vsi_scope.proofs.Views.{command_If, command_While, command_Letvar}
use Rattle.vsi_code.proofs.Heights.{nesting_more}
use Rattle.vsi_code.proofs.generator.+nestings.Goals as goal

pub nesting_of_one-returns-in-If : goal.nesting_of_one-returns-in-If
nesting_of_one-returns-in-If t c =
    let e = ap (λ x. nesting (command x)) c.in-If.is
    ∙ ap nesting (command_If c.in-If.guard c.in-If.yes c.in-If.no) in
    search rules

pub nesting_of_one-returns-in-While : goal.nesting_of_one-returns-in-While
nesting_of_one-returns-in-While t c =
    let e = ap (λ x. nesting (command x)) c.in-While.is
    ∙ ap nesting (command_While c.in-While.guard c.in-While.body) in
    search rules

pub nesting_of_one-returns-in-Letvar : goal.nesting_of_one-returns-in-Letvar
nesting_of_one-returns-in-Letvar t c =
    let e = ap (λ x. nesting (command x)) c.in-Letvar.is
    ∙ ap nesting (command_Letvar c.in-Letvar.value c.in-Letvar.body) in
    search rules

pub letvar_nesting-loop-c-preserved : goal.letvar_nesting-loop-c-preserved
letvar_nesting-loop-c-preserved t c =
    let e = nesting_more c.args.body.now c.loop-c.c-index c.c-item.result c.loop-c-test.true c.c-item.is in
    search rules
