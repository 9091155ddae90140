use Rattle.std.proofs.Common.{rules, ◌≡◌, ◌+◌, take, ap, sym, subst, ◌∙◌}
use Rattle.vsi_scope.specs.View.{expression, command, sequence}
use Rattle.vsi_scope.proofs.Views.{command_If, command_While, command_Letvar}
use Rattle.vsi_audit.specs.Fitting.{Fits}
use Rattle.vsi_audit.proofs.Sequences.{fits_more, fits_if, fits_while, fits_letvar}
use Rattle.vsi_audit.proofs.audit.+fitting.Goals as goal

pub fit_all-loop-c-preserved : goal.fit_all-loop-c-preserved
fit_all-loop-c-preserved t c =
    let body = c.args.body.now in
    let sum : c.loop-c.letvars + c.in_ok-more.more ≡ c.in_ok-letvars.letvars = search rules in
    subst (λ n. Fits c.args.scope c.args.room n (sequence (take (c.loop-c.c-index + 1) body))) sum
    (fits_more c.args.scope c.args.room c.loop-c.letvars c.in_ok-more.more body c.loop-c.c-index c.c-item.result
    c.loop-c-test.true c.c-item.is c.loop-c.invariant c.in_ok-more.ensures)

pub fit_one-returns-in_ok-letvars-in-If : goal.fit_one-returns-in_ok-letvars-in-If
fit_one-returns-in_ok-letvars-in-If t c =
    let level : c.in_ok-inner-in-If.inner + 1 ≡ c.args.room = search rules in
    let sum : c.in_ok-first-in-If.first + c.in_ok-second-in-If.second ≡ c.in_ok-letvars-in-If.letvars = search rules in
    subst (Fits c.args.scope c.args.room c.in_ok-letvars-in-If.letvars)
    (sym (ap command c.in-If.is ∙ command_If c.in-If.guard c.in-If.yes c.in-If.no))
    (fits_if c.args.scope c.args.room c.in_ok-inner-in-If.inner _ _ _ (expression c.in-If.guard) _ _ level sum
    (search rules) (search rules) (search rules))

pub fit_one-returns-in_ok-letvars-in-While : goal.fit_one-returns-in_ok-letvars-in-While
fit_one-returns-in_ok-letvars-in-While t c =
    let level : c.in_ok-inner-in-While.inner + 1 ≡ c.args.room = search rules in
    subst (Fits c.args.scope c.args.room c.in_ok-letvars-in-While.letvars)
    (sym (ap command c.in-While.is ∙ command_While c.in-While.guard c.in-While.body))
    (fits_while c.args.scope c.args.room c.in_ok-inner-in-While.inner _ (expression c.in-While.guard) _ level
    (search rules) (search rules))

pub fit_one-returns-in_ok-letvars-in-Letvar : goal.fit_one-returns-in_ok-letvars-in-Letvar
fit_one-returns-in_ok-letvars-in-Letvar t c =
    let level : c.in_ok-inner-in-Letvar.inner + 1 ≡ c.args.room = search rules in
    let next : c.args.scope + 1 ≡ c.in_ok-above-in-Letvar.above = search rules in
    let more : c.in_ok-inside-in-Letvar.inside + 1 ≡ c.in_ok-letvars-in-Letvar.letvars = search rules in
    subst (Fits c.args.scope c.args.room c.in_ok-letvars-in-Letvar.letvars)
    (sym (ap command c.in-Letvar.is ∙ command_Letvar c.in-Letvar.value c.in-Letvar.body))
    (fits_letvar c.args.scope c.args.room c.in_ok-inner-in-Letvar.inner c.in_ok-above-in-Letvar.above
    c.in_ok-inside-in-Letvar.inside _ (expression c.in-Letvar.value) _ level next more (search rules) (search rules))
