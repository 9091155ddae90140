use Rattle.std.proofs.Common.{refl}
use Rattle.std.proofs.lemmas.Result.{IfErr-weaker}
use Rattle.vsi_arguments.specs.declared.request.Budget.TheVariants.{Auto}
use Rattle.vsi_subject.specs.Refusals.{FailsBy, IsUnbounded, LacksBound}
use Rattle.vsi_subject.proofs.Reasons.{FailsBy-weaker}
use Rattle.vsi_subject.proofs.Unrun.{lacks_bound}
use Rattle.vsi_requests.proofs.drives.budget_of.Goals as goal

pub returns-in-Number-clause-budget : goal.returns-in-Number-clause-budget
returns-in-Number-clause-budget c = rw c.in-Number.is refl

pub returns-in-Auto-clause-budget : goal.returns-in-Auto-clause-budget
returns-in-Auto-clause-budget c = rw c.in-Auto.is c.most_of.ensures.told

pub returns-in-Auto-clause-failed : goal.returns-in-Auto-clause-failed
returns-in-Auto-clause-failed c = rw c.in-Auto.is
    (let image = c.args.verified.now in
    IfErr-weaker c.most_of.result (FailsBy (λ reason. ⊥) (IsUnbounded image))
    (FailsBy (λ reason. ⊥) (LacksBound Auto image))
    (FailsBy-weaker (λ reason. ⊥) (λ reason. ⊥) (IsUnbounded image) (LacksBound Auto image) (λ reason none. none)
    (lacks_bound image))
    c.most_of.ensures.failed)
