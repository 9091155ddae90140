use Rattle.std.proofs.Common.{None}
use Rattle.vsi_answers.proofs.bounds.bound.Goals as goal

pub returns : goal.returns
returns c = record {
  bound = record {
    answer = c.in_ok-found.found;
    is = c.in_ok-found.ensures;
    place = None;
    line = c.in_ok-answer.ensures.0;
    bounded = c.in_ok-answer.ensures.1;
    found = c.in_ok-answer.ensures.2;
  };
}
