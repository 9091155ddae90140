use Rattle.std.proofs.Common.{subst}
use Rattle.std.specs.Prelude.{MatchResult}
use Rattle.vsi_answers.specs.Bounds.{IsBound, LacksBound}
use Rattle.vsi_requests.proofs.conformity.bound_judged.Goals as goal

pub returns-in-Ok : goal.returns-in-Ok
returns-in-Ok c = (
  c.in_ok-verified.verified,
  c.in_ok-verified.ensures,
  subst
      (λ a. MatchResult a (IsBound c.in_ok-verified.verified) (λ line. LacksBound c.in_ok-verified.verified line.items))
      c.in-Ok.is c.in_ok-most.ensures.budget,
)
