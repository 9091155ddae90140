use Rattle.std.proofs.Common.{rules, ◌≡◌, subst}
use Rattle.vsi_scope.specs.View.{sequence}
use Rattle.vsi_audit.specs.Fitting.{Fits}
use Rattle.vsi_audit.proofs.Sequences.{small_enough}
use Rattle.vsi_audit.proofs.audit.is_within.Goals as goal

pub returns-clause-fits : goal.returns-clause-fits
returns-clause-fits c = λ _.
    let same : c.in-Some.found ≡ c.args.letvars = search rules in
    subst (λ n. Fits c.args.globals 200 n (sequence c.args.body.now)) same c.in-Some.ensures

pub returns-clause-small : goal.returns-clause-small
returns-clause-small c = λ _. small_enough _ (search rules)
