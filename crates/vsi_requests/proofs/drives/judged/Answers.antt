use Rattle.std.proofs.Common.{inl, inr}
use Rattle.vsi_requests.proofs.drives.judged.Goals as goal

pub returns-then-most-budget : goal.returns-then-most-budget
returns-then-most-budget c =
    record {
      most = c.in-Ok.most;
      halts = rw c.in-Ok.is at c.in_ok-most.ensures.budget;
      covers = inl c.if-most-budget.true;
    }

pub returns-in-Ok-steady_in : goal.returns-in-Ok-steady_in
returns-in-Ok-steady_in c =
    record {
      most = c.in-Ok.most;
      halts = rw c.in-Ok.is at c.in_ok-most.ensures.budget;
      covers = inr c.in-Ok-steady_in.ensures.steady;
    }

pub returns-in_ok-line-in_default : goal.returns-in_ok-line-in_default
returns-in_ok-line-in_default c =
    inr (record {
      most = c.in-Ok.most;
      halts = rw c.in-Ok.is at c.in_ok-most.ensures.budget;
      below = c.if-most-budget.false;
      error = c.in-Err-steady_in.error;
      known = λ same. c.in_default.not-Memory same;
      refused = c.in-Err-steady_in.ensures.refused;
      says = c.in_ok-line-in_default.ensures;
    })
