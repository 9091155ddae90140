use Rattle.std.proofs.Common.{subst}
use Rattle.std.specs.Result.{MatchResult}
use Rattle.vsi_answers.specs.Bounds.{IsBound, LacksBound}
use Rattle.vsi_subject.proofs.subject.most_of.Goals as goal

pub returns-in-Err-clause-failed : goal.returns-in-Err-clause-failed
returns-in-Err-clause-failed c =
    let image = c.args.verified.now in
    subst (λ r. MatchResult r (IsBound image) (λ line. LacksBound image line.items)) c.in-Err.is
    c.in_ok-most.ensures.budget
