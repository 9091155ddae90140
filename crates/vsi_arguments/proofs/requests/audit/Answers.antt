use Rattle.std.proofs.Common.{rules}
use Rattle.vsi_arguments.specs.Words.{texts}
use Rattle.vsi_arguments.proofs.requests.audit.Goals as goal

pub returns-in-Lines : goal.returns-in-Lines
returns-in-Lines c = record {
  spelled = record {
    rest = texts c.in_ok-rest.rest.now;
    named = c.in_ok-rest.ensures.named;
    has_operands = search rules;
    has_flags = search rules;
    has_options = search rules;
    has_numbers = search rules;
  };
  own = rw (c.as_slice.ensures, c.as_slice-2.ensures) at c.in_ok-rest.ensures.own;
}

pub returns-in-Json : goal.returns-in-Json
returns-in-Json c = record {
  spelled = record {
    rest = texts c.in_ok-rest.rest.now;
    named = c.in_ok-rest.ensures.named;
    has_operands = search rules;
    has_flags = search rules;
    has_options = search rules;
    has_numbers = search rules;
  };
  own = rw (c.as_slice.ensures, c.as_slice-2.ensures) at c.in_ok-rest.ensures.own;
}

pub returns-in-Sarif : goal.returns-in-Sarif
returns-in-Sarif c = record {
  spelled = record {
    rest = texts c.in_ok-rest.rest.now;
    named = c.in_ok-rest.ensures.named;
    has_operands = search rules;
    has_flags = search rules;
    has_options = search rules;
    has_numbers = search rules;
  };
  own = rw (c.as_slice.ensures, c.as_slice-2.ensures) at c.in_ok-rest.ensures.own;
}
