use Rattle.std.proofs.Common.{rules, ◌≡◌, ◌+◌, ap, sym, subst, ◌∙◌}
use Rattle.vsi_scope.specs.Language.{Command, size}
use Rattle.vsi_scope.specs.View.{expression, command, sequence}
use Rattle.vsi_scope.proofs.Views.{command_If, command_While, command_Letvar}
use Rattle.vsi_code.specs.Layout.{code_at}
use Rattle.vsi_audit.specs.Coding.{StandsAt}
use Rattle.vsi_audit.proofs.CodeParts.{choice_stands, loop_stands, letvar_stands, more_stands}
use Rattle.vsi_audit.proofs.writing.+coding.Goals as goal

pub behind_all-loop-c-preserved : goal.behind_all-loop-c-preserved
behind_all-loop-c-preserved t c =
    more_stands c.args.code.now c.args.body.now c.loop-c.c-index c.args.start c.args.scope c.loop-c.place
    c.in_ok-place.place c.c-item.result c.loop-c-test.true c.c-item.is c.loop-c.invariant c.in_ok-place.ensures

pub behind_one-returns-in_ok-_jumped-in-If : goal.behind_one-returns-in_ok-_jumped-in-If
behind_one-returns-in_ok-_jumped-in-If t c =
    let code = c.args.code.now in
    let next : c.in_ok-test-in-If.test + 1 ≡ c.in_ok-first-in-If.first = search rules in
    let after : c.in_ok-jump-in-If.jump + 1 ≡ c.in_ok-second-in-If.second = search rules in
    subst (λ (x : Command). StandsAt code (code_at c.args.place c.args.scope x) c.args.place (size x)
    c.in_ok-end-in-If.end)
    (sym (ap command c.in-If.is ∙ command_If c.in-If.guard c.in-If.yes c.in-If.no))
    (choice_stands code c.args.place c.args.scope c.in_ok-test-in-If.test c.in_ok-first-in-If.first
    c.in_ok-jump-in-If.jump c.in_ok-second-in-If.second c.in_ok-end-in-If.end c.in_ok-_tested-in-If._tested
    c.in_ok-_jumped-in-If._jumped (expression c.in-If.guard) (sequence c.in-If.yes.items)
    (sequence c.in-If.no.items) (search rules) next (search rules) after (search rules)
    c.in_ok-_tested-in-If.ensures c.in_ok-_jumped-in-If.ensures)

pub behind_one-returns-in_ok-_tested-in-While : goal.behind_one-returns-in_ok-_tested-in-While
behind_one-returns-in_ok-_tested-in-While t c =
    let code = c.args.code.now in
    let next : c.in_ok-test-in-While.test + 1 ≡ c.in_ok-first-in-While.first = search rules in
    subst (λ (x : Command). StandsAt code (code_at c.args.place c.args.scope x) c.args.place (size x)
    c.in_ok-end-in-While.end)
    (sym (ap command c.in-While.is ∙ command_While c.in-While.guard c.in-While.body))
    (loop_stands code c.args.place c.args.scope c.in_ok-test-in-While.test c.in_ok-first-in-While.first
    c.in_ok-jump-in-While.jump c.in_ok-end-in-While.end c.in_ok-_tested-in-While._tested
    (expression c.in-While.guard) (sequence c.in-While.body.items) (search rules) next (search rules)
    c.in_ok-end-in-While.ensures c.in_ok-_tested-in-While.ensures)

pub behind_one-returns-in_ok-end-in-Letvar : goal.behind_one-returns-in_ok-end-in-Letvar
behind_one-returns-in_ok-end-in-Letvar t c =
    let code = c.args.code.now in
    let next : c.args.scope + 1 ≡ c.in_ok-above-in-Letvar.above = search rules in
    subst (λ (x : Command). StandsAt code (code_at c.args.place c.args.scope x) c.args.place (size x)
    c.in_ok-end-in-Letvar.end)
    (sym (ap command c.in-Letvar.is ∙ command_Letvar c.in-Letvar.value c.in-Letvar.body))
    (letvar_stands code c.args.place c.args.scope c.in_ok-above-in-Letvar.above c.in_ok-store-in-Letvar.store
    c.in_ok-first-in-Letvar.first c.in_ok-end-in-Letvar.end (expression c.in-Letvar.value)
    (sequence c.in-Letvar.body.items) (search rules) c.in_ok-first-in-Letvar.ensures next (search rules))
