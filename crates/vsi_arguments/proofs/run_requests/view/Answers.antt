use Rattle.std.proofs.Common.{rules}
use Rattle.vsi_arguments.specs.Words.{texts}
use Rattle.vsi_arguments.proofs.run_requests.view.Goals as goal

pub returns-then-is_bounding : goal.returns-then-is_bounding
returns-then-is_bounding c = record {
  spelled = record {
    asks = record {
      rest = texts c.in_ok-rest.rest.now;
      named = c.in_ok-rest.ensures.named;
      has_operands = search rules;
      has_flags = search rules;
      has_options = search rules;
      has_numbers = search rules;
    };
    unfed = search rules;
    listed = search rules;
  };
  own = rw (c.as_slice.ensures, c.as_slice-2.ensures) at c.in_ok-rest.ensures.own;
}

pub returns : goal.returns
returns c = record {
  spelled = record {
    rest = texts c.in_ok-rest.rest.now;
    named = c.in_ok-rest.ensures.named;
    has_operands = search rules;
    has_flags = search rules;
    has_options = search rules;
    has_numbers = search rules;
  };
  own = rw (c.as_slice-3.ensures, c.as_slice-4.ensures) at c.in_ok-behind.ensures.own;
}
