use Rattle.std.proofs.Common.{rules}
use Rattle.vsi_arguments.specs.Words.{texts}
use Rattle.vsi_arguments.proofs.run_requests.compare.Goals as goal

pub returns-then-has_flag : goal.returns-then-has_flag
returns-then-has_flag c = record {
  spelled = record {
    rest = texts c.in_ok-rest.rest.now;
    named = c.in_ok-rest.ensures.named;
    has_operands = search rules;
    has_flags = search rules;
    has_options = search rules;
    has_numbers = search rules;
  };
  own = rw (c.as_slice.ensures, c.as_slice-2.ensures) at c.in_ok-rest.ensures.own;
}

pub returns : goal.returns
returns c = record {
  spelled = record {
    rest = texts c.in_ok-rest.rest.now;
    named = c.in_ok-rest.ensures.named;
    has_operands = search rules;
    has_flags = search rules;
    has_options = search rules;
    has_numbers = search rules;
  };
  own = rw (c.as_slice.ensures, c.as_slice-2.ensures) at c.in_ok-rest.ensures.own;
}
