use Rattle.std.proofs.Common.{rules, ap, ◌∙◌}
use Rattle.vsi_scope.specs.Language.{letvars}
use Rattle.vsi_scope.specs.View.{command}
use Rattle.vsi_scope.proofs.Views.{command_If, command_While, command_Letvar}
use Rattle.vsi_steps.proofs.labels.+letvars.Goals as goal

pub letvars_in-returns-in-If : goal.letvars_in-returns-in-If
letvars_in-returns-in-If t c =
    let e = ap (λ x. letvars (command x)) c.in-If.is ∙ ap letvars (command_If c.in-If.guard c.in-If.yes c.in-If.no) in
    search rules

pub letvars_in-returns-in-While : goal.letvars_in-returns-in-While
letvars_in-returns-in-While t c =
    let e = ap (λ x. letvars (command x)) c.in-While.is ∙ ap letvars (command_While c.in-While.guard c.in-While.body) in
    search rules

pub letvars_in-returns-in-Letvar : goal.letvars_in-returns-in-Letvar
letvars_in-returns-in-Letvar t c =
    let e = ap (λ x. letvars (command x)) c.in-Letvar.is ∙ ap letvars (command_Letvar c.in-Letvar.value
    c.in-Letvar.body) in
    search rules
