use Rattle.std.proofs.Common.{length, ap, ◌∙◌, subst, arith}
use Rattle.vsi_scope.specs.View.{sequence}
use Rattle.vsi_opt.specs.Optimised.{optimised}
use Rattle.vsi_opt.specs.Remaining.{remaining, HasEntries}
use Rattle.vsi_opt.proofs.Rebuilt.{rebuilt_resolved, rebuilt_body, rebuilt_runs, rebuilt_size, rebuilt_folded, rebuilt_remains}
use Rattle.vsi_opt.proofs.optimiser.optimise.Goals as goal

pub overflow_cast-globals : goal.overflow_cast-globals
overflow_cast-globals c =
    let few = c.body-source.ensures.resolved.few_globals in
    let is = ap length c.globals.ensures in
    omega (arith, few, is)

pub rebuilt-requires : goal.rebuilt-requires
rebuilt-requires c =
    let p = c.args.program.now in
    rebuilt_resolved p c.in_ok-letvars.letvars.items c.in_ok-body.body.items c.body-source.ensures.resolved
    (subst (λ l. HasEntries c.in_ok-letvars.letvars.items l (remaining (sequence p.body) 0)) c.letvars.ensures
    (subst (λ l. HasEntries c.in_ok-letvars.letvars.items c.letvars.result.now (remaining (sequence l) 0))
    c.body-source.ensures.value c.in_ok-letvars.ensures))
    (c.in_ok-body.ensures
    ∙ ap (λ n. optimised (length n) (sequence c.body-source.result.now)) c.globals.ensures
    ∙ ap (λ l. optimised (length p.globals) (sequence l)) c.body-source.ensures.value)

pub returns-in-Ok-clause-live : goal.returns-in-Ok-clause-live
returns-in-Ok-clause-live c =
    let p = c.args.program.now in
    rebuilt_body p c.in-Ok.optimised c.in_ok-letvars.letvars.items c.in_ok-body.body.items c.in-Ok.ensures.rebuilt
    (c.in_ok-body.ensures
    ∙ ap (λ n. optimised (length n) (sequence c.body-source.result.now)) c.globals.ensures
    ∙ ap (λ l. optimised (length p.globals) (sequence l)) c.body-source.ensures.value)

pub returns-in-Ok-clause-same : goal.returns-in-Ok-clause-same
returns-in-Ok-clause-same c = rebuilt_runs c.args.program.now c.in-Ok.optimised (returns-in-Ok-clause-live c)

pub returns-in-Ok-clause-not_larger : goal.returns-in-Ok-clause-not_larger
returns-in-Ok-clause-not_larger c = rebuilt_size c.args.program.now c.in-Ok.optimised (returns-in-Ok-clause-live c)

pub returns-in-Ok-clause-folded : goal.returns-in-Ok-clause-folded
returns-in-Ok-clause-folded c = rebuilt_folded c.args.program.now c.in-Ok.optimised (returns-in-Ok-clause-live c)

pub returns-in-Ok-clause-remains : goal.returns-in-Ok-clause-remains
returns-in-Ok-clause-remains c =
    rebuilt_remains c.args.program.now c.in-Ok.optimised c.body-source.ensures.resolved
    (ap (λ r. r.globals) c.in-Ok.ensures.rebuilt) (returns-in-Ok-clause-live c)
