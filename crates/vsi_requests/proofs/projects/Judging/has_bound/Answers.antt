use Rattle.std.proofs.Common.{subst}
use Rattle.std.specs.Prelude.{MatchResult}
use Rattle.vsi_answers.specs.Bounds.{IsBound, LacksBound}
use Rattle.vsi_requests.proofs.projects.Judging.has_bound.Goals as goal

pub returns-in-Ok : goal.returns-in-Ok
returns-in-Ok c = λ has required.
    let image = c.args.verified.now in (
      c.in-Ok._most,
      subst (λ a. MatchResult a (IsBound image) (λ line. LacksBound image line.items)) c.in-Ok.is
          c.in_ok-found.ensures.budget,
    )
